-- Document 02, papers 1 and 3: what holds of every bill's amount and cap, which are the bill at a price of each class (`bill_at`): its rate, or
-- its cap. Assumes nothing.
use Rattle.std.specs.Prelude.{◌≡◌, List, ℕ, suc, ◌+◌, ◌-◌, ◌*◌, ◌^◌, ◌<◌, ◌≤◌, length}
use Rattle.basics.specs.Lists.{total, All}
use Rattle.rates.specs.declared.Kind.{Kind}
use Rattle.rates.specs.declared.Certificate.{Certificate}
use Rattle.rates.specs.declared.Terms.{Terms}
use Rattle.rates.specs.declared.Class.{Class}
use Rattle.rates.specs.declared.Class.TheVariants.{Baseline, Etii}
use Rattle.rates.specs.Rates.{class_rate, class_cap, qhs_class, certified_class, class_of}
use Rattle.amounts.specs.declared.Bill.{Bill}
use Rattle.amounts.specs.Days.{sum_by_day}
use Rattle.amounts.specs.Amounts.{days_of, shares, bill_at, amount, cap, rate, Rateable}
use Rattle.amounts.specs.Stretches.{Stretch, Cut, by_stretch, change_days, stretches_of}
use Rattle.amounts.specs.EarlierAmount.{earlier_amount}

-- a bill at a price of each class, by the stretches of its shares
abbrev pub bill_by_stretches : (price : Class → ℕ) → Terms → Bill → ℕ
bill_by_stretches price terms bill =
    total (λ s. by_stretch price s.kwh (days_of bill) 0 (stretches_of s.certificate terms.kind bill.first (days_of bill))) (shares terms bill)

-- a class stays the same from a bill's first day to its last
abbrev pub NoChangeInside : (class : (day : ℕ) → Class) → Bill → Type 0
NoChangeInside class bill = (day : ℕ) → bill.first ≤ day → day ≤ bill.last → class day ≡ class bill.first

-- ---- paper 1

pub record SharesRated : Type 0 where
  -- a bill without shares is rated by the certificate of its terms, and answers the rate of its first day
  pub without_shares : (price : Class → ℕ) (terms : Terms) (bill : Bill) → bill.etii ≡ 0 → bill.qhs ≡ 0
      → bill_at price terms bill ≡ sum_by_day price bill.kwh (days_of bill) (λ j. class_of terms (bill.first + j))
  pub rate_without : (terms : Terms) (bill : Bill) → bill.etii ≡ 0 → bill.qhs ≡ 0
      → rate terms bill ≡ class_rate terms.fuel (class_of terms bill.first) bill.reference bill.supply
  -- "If either is not 0, each share is rated by its class, the certificate is set aside": the rest and the ETII share have one class, and the QHS
  -- share's minimum is that of the day; "the rate answered is the baseline one"
  pub with_shares : (price : Class → ℕ) (terms : Terms) (bill : Bill) → bill.first ≤ bill.last → 0 < bill.etii + bill.qhs
      → bill_at price terms bill
      ≡ (bill.kwh - (bill.etii + bill.qhs)) * price Baseline
      + bill.etii * price Etii
      + sum_by_day price bill.qhs (days_of bill) (λ j. qhs_class terms.kind (bill.first + j))
  pub rate_with : (terms : Terms) (bill : Bill) → 0 < bill.etii + bill.qhs → rate terms bill ≡ class_rate terms.fuel Baseline bill.reference bill.supply
  -- the shares of a bill are all of its kWh
  pub whole : (terms : Terms) (bill : Bill) → bill.etii + bill.qhs ≤ bill.kwh → total (λ s. s.kwh) (shares terms bill) ≡ bill.kwh

-- ---- paper 3

pub record StretchesRated : Type 0 where
  -- however days are cut into stretches of one class, the sum over stretches is the sum over days
  pub any_cut : (price : Class → ℕ) (k n : ℕ) (class : ℕ → Class) (ss : List Stretch) → Cut n class 0 ss → sum_by_day price k n class ≡ by_stretch price k n 0 ss
  -- a share's days are cut so into at most three; so "the amount is the sum over stretches", and the cap is
  pub cut : (certificate : Certificate) (kind : Kind) (first n : ℕ) → Cut n (λ j. certified_class certificate kind (first + j)) 0 (stretches_of certificate kind first n)
  pub at_most_three : (certificate : Certificate) (kind : Kind) (first n : ℕ) → length (stretches_of certificate kind first n) ≤ 3
  pub summed : (price : Class → ℕ) (terms : Terms) (bill : Bill) → bill_at price terms bill ≡ bill_by_stretches price terms bill
  -- the class of a day is that of the day before, but on a day of change
  pub changes : (certificate : Certificate) (kind : Kind) (day : ℕ) → All (λ d. suc day ≡ d → ⊥) (change_days certificate kind)
      → certified_class certificate kind (suc day) ≡ certified_class certificate kind day
  -- the kWh of the stretches add up to the bill's
  pub whole : (terms : Terms) (bill : Bill) → bill.first ≤ bill.last → bill.etii + bill.qhs ≤ bill.kwh → bill_by_stretches (λ class. 1) terms bill ≡ bill.kwh

-- "Bills without a change inside keep their amounts"
pub record WithoutChangeInside : Type 0 where
  -- there is none where no day of change lies after the bill's first day and not after its last
  pub no_day_inside : (certificate : Certificate) (kind : Kind) (bill : Bill) → All (λ d. bill.first < d → bill.last < d) (change_days certificate kind)
      → NoChangeInside (certified_class certificate kind) bill
  -- where none of its shares that has kWh has a change inside, a bill's amount is what it was before
  pub as_before : (terms : Terms) (bill : Bill) → bill.first ≤ bill.last
      → All (λ s. 0 < s.kwh → NoChangeInside (certified_class s.certificate terms.kind) bill) (shares terms bill)
      → amount terms bill ≡ earlier_amount terms bill
  -- without shares that is kWh times the rate answered, and the cap is kWh times that of the class
  pub kept : (terms : Terms) (bill : Bill) → bill.first ≤ bill.last → bill.etii ≡ 0 → bill.qhs ≡ 0 → NoChangeInside (class_of terms) bill
      → amount terms bill ≡ bill.kwh * rate terms bill
  pub cap_kept : (terms : Terms) (bill : Bill) → bill.first ≤ bill.last → bill.etii ≡ 0 → bill.qhs ≡ 0 → NoChangeInside (class_of terms) bill
      → cap terms bill ≡ bill.kwh * class_cap terms.fuel (class_of terms bill.first) bill.supply
  -- with shares it is the sum over the three, at any price of each class
  pub shares_kept : (price : Class → ℕ) (terms : Terms) (bill : Bill) → bill.first ≤ bill.last → 0 < bill.etii + bill.qhs → (0 < bill.qhs → NoChangeInside (qhs_class terms.kind) bill)
      → bill_at price terms bill
      ≡ (bill.kwh - (bill.etii + bill.qhs)) * price Baseline
      + bill.etii * price Etii
      + bill.qhs * price (qhs_class terms.kind bill.first)

-- ---- the most that an amount can be

pub record AmountsBounded : Type 0 where
  pub capped : (terms : Terms) (bill : Bill) → amount terms bill ≤ cap terms bill
  pub fifty_bits : (terms : Terms) (bill : Bill) → Rateable bill → amount terms bill < 2 ^ 50
