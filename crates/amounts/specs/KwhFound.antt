-- What the code finds of a bill, its kWh in each class: the contracts of its inner functions cite these. Assumes nothing.
use Rattle.std.specs.Prelude.{◌≡◌, cond, ℕ, ◌+◌, ◌-◌, ◌*◌, max}
use Rattle.limits.specs.Limits.{new_minimum_day}
use Rattle.rates.specs.declared.Kind.{Kind}
use Rattle.rates.specs.declared.Terms.{Terms}
use Rattle.rates.specs.declared.Class.{Class}
use Rattle.rates.specs.declared.Class.TheVariants.{Baseline, Etii, QhsOld, QhsNew}
use Rattle.rates.specs.Rates.{entered_early}
use Rattle.amounts.specs.declared.Bill.{Bill}
use Rattle.amounts.specs.declared.KwhByClass.{KwhByClass}
use Rattle.amounts.specs.Days.{in_first}
use Rattle.amounts.specs.Amounts.{days_of, bill_at}
use Rattle.amounts.specs.Stretches.{days_before}

-- of k kWh spread over a bill's days, those before a day of the calendar
abbrev pub kwh_before : Bill → (k day : ℕ) → ℕ
kwh_before bill k day = in_first k (days_of bill) (days_before bill.first (days_of bill) day)

-- of k kWh spread over a bill's days, of QHS from a day on, those with the new minimum
abbrev pub with_new_minimum : Kind → Bill → (k day : ℕ) → ℕ
with_new_minimum kind bill k day = cond (entered_early kind) 0 (k - kwh_before bill k (max day new_minimum_day))

-- kWh in each class at a price of each class
abbrev pub at_prices : (price : Class → ℕ) → KwhByClass → ℕ
at_prices price k = k.baseline * price Baseline + k.etii * price Etii + k.old * price QhsOld + k.new * price QhsNew

-- these are a bill's kWh in each class: at whatever prices they come to what the bill does
pub record KwhOf (terms : Terms) (bill : Bill) (k : KwhByClass) : Type 0 where
  pub priced : (price : Class → ℕ) → bill_at price terms bill ≡ at_prices price k
  pub whole : k.baseline + k.etii + k.old + k.new ≡ bill.kwh
