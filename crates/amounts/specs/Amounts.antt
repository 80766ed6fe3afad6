-- Document 02, papers 1 and 3: a bill's shares; and over them, by day, the bill's amount and cap; the rate that it answers; paper 5: all three
-- under its contract. All in ticks. Assumes nothing.
use Rattle.std.specs.Prelude.{Bool, not, cond, ◌||◌, List, [], ◌∷◌, ℕ, suc, ◌+◌, ◌-◌, ◌≤◌, eqb}
use Rattle.limits.specs.Limits.{most_kwh_stored, highest_price}
use Rattle.basics.specs.Lists.{total}
use Rattle.rates.specs.declared.Kind.{Kind}
use Rattle.rates.specs.declared.Certificate.{Certificate}
use Rattle.rates.specs.declared.Certificate.TheVariants.{None, Etii, Qhs}
use Rattle.rates.specs.declared.Contract.{Contract}
use Rattle.rates.specs.declared.Terms.{Terms}
use Rattle.rates.specs.TermsTaken.{terms_for}
use Rattle.rates.specs.declared.Class.{Class}
use Rattle.rates.specs.Rates.{class_rate, class_cap, certified_class}
use Rattle.amounts.specs.declared.Bill.{Bill}
use Rattle.amounts.specs.Days.{sum_by_day}

-- how many days a bill has
abbrev pub days_of : Bill → ℕ
days_of bill = suc bill.last - bill.first

-- a share of a bill: kWh that are rated under one certificate
pub record Share : Type 0 where
  pub kwh : ℕ
  pub certificate : Certificate

abbrev pub share : (kwh : ℕ) → Certificate → Share
share kwh certificate = record { kwh = kwh; certificate = certificate }

-- "If either is not 0": of the kWh in the ETII share and in the QHS share
unfoldable pub has_shares : Bill → Bool
has_shares bill = not (eqb bill.etii 0) || not (eqb bill.qhs 0)

-- then "the certificate is set aside"; else the rest is all of the bill, under the terms' certificate
unfoldable pub rest_certificate : Terms → Bill → Certificate
rest_certificate terms bill = cond (has_shares bill) None terms.certificate

-- "each share is rated by its class", on every day: the rest, the ETII share and the QHS share, these two as from day 0 on
unfoldable pub shares : Terms → Bill → List Share
shares terms bill =
    share (bill.kwh - (bill.etii + bill.qhs)) (rest_certificate terms bill)
    ∷ share bill.etii (Etii 0)
    ∷ share bill.qhs (Qhs 0)
    ∷ []

-- a share at a price of each class, by day: "A day's class and QHS minimum are those of a bill starting on that day"
unfoldable pub share_at : (price : Class → ℕ) → Kind → Bill → Share → ℕ
share_at price kind bill s = sum_by_day price s.kwh (days_of bill) (λ j. certified_class s.certificate kind (bill.first + j))

-- a bill at a price of each class: "The shares of Paper 1 are each spread this way"
unfoldable pub bill_at : (price : Class → ℕ) → Terms → Bill → ℕ
bill_at price terms bill = total (share_at price terms.kind bill) (shares terms bill)

-- a class's rate and cap at a bill's prices: "R is the row's one R throughout"
abbrev pub rate_of : Terms → Bill → Class → ℕ
rate_of terms bill class = class_rate terms.fuel class bill.reference bill.supply

abbrev pub cap_of : Terms → Bill → Class → ℕ
cap_of terms bill class = class_cap terms.fuel class bill.supply

-- a bill's amount and its cap: each day's kWh times the rate, and the cap, of the day's class
unfoldable pub amount : Terms → Bill → ℕ
amount terms bill = bill_at (rate_of terms bill) terms bill

unfoldable pub cap : Terms → Bill → ℕ
cap terms bill = bill_at (cap_of terms bill) terms bill

-- "The rate answered is that of the first day", of the rest
unfoldable pub rate : Terms → Bill → ℕ
rate terms bill = rate_of terms bill (certified_class (rest_certificate terms bill) terms.kind bill.first)

-- a figure of a bill under its contract: by the terms that it takes, "chosen by its first day"
abbrev pub by_terms : (Terms → Bill → ℕ) → Contract → Bill → ℕ
by_terms figure contract bill = figure (terms_for contract bill.first) bill

-- a bill whose days, kWh, shares and S keep the ranges of a row, so that its amount fits
pub record Rateable (bill : Bill) : Type 0 where
  pub days : bill.first ≤ bill.last
  pub kwh : bill.kwh ≤ most_kwh_stored
  pub shares : bill.etii + bill.qhs ≤ bill.kwh
  pub supply : bill.supply ≤ highest_price
