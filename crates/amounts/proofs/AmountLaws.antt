-- The laws of every bill's amount and cap: over shares, over stretches, without a change inside, and their bounds. Assumes nothing.
use mathlib.Core.Path.{◌≡◌, refl, sym, subst, ◌∙◌}
use Prim.Native.Nat.{ℕ, zero, suc, ◌+◌, ◌-◌, ◌*◌, ◌<◌, ◌≤◌, zero-le}
use native.Mathlib.Nat.{add-zero, add-suc}
use native.Mathlib.Omega.{arith}
use Rattle.basics.specs.Lists.{All}
use Rattle.basics.proofs.Lists.{all_map, total-all, total-cong}
use Rattle.rates.specs.declared.Kind.{Kind}
use Rattle.rates.specs.declared.Certificate.{Certificate}
use Rattle.rates.specs.declared.Terms.{Terms}
use Rattle.rates.specs.declared.Class.{Class}
use Rattle.rates.specs.declared.Class.TheVariants.{Baseline, Etii}
use Rattle.rates.specs.Rates.{qhs_class, certified_class, class_of}
use Rattle.amounts.specs.declared.Bill.{Bill}
use Rattle.amounts.specs.Days.{sum_by_day}
use Rattle.amounts.specs.Amounts.{days_of, shares, share_at, bill_at, rate_of, cap_of, amount, cap}
use Rattle.amounts.specs.Stretches.{change_days}
use Rattle.amounts.specs.EarlierAmount.{earlier_amount}
use Rattle.amounts.specs.AmountLaws.{bill_by_stretches, NoChangeInside, SharesRated, StretchesRated, WithoutChangeInside, AmountsBounded}
use Rattle.amounts.proofs.Days.{by-day-none, by-day-cong}
use Rattle.amounts.proofs.Stretches.{sum-over-stretches, one_class}
use Rattle.amounts.proofs.Certificates.{etii-from, qhs-from, changes, at_most_three, cut}
use Rattle.amounts.proofs.Shares.{none-given, some-given, rate-shared, rate-whole, shares_whole, bill-without, bill-with, bill-one-price}
use Rattle.amounts.proofs.KwhFound.{share-stretches}
use Rattle.amounts.proofs.AmountBounds.{amount-capped, amount-bits}

-- ---- shares

module _ (price : Class → ℕ) (terms : Terms) (bill : Bill) where
  without_shares : bill.etii ≡ 0 → bill.qhs ≡ 0 → bill_at price terms bill ≡ sum_by_day price bill.kwh (days_of bill) (λ j. class_of terms (bill.first + j))
  unfolding share_at class_of
  without_shares etii qhs = bill-without price terms bill (none-given bill etii qhs)

  with_shares : bill.first ≤ bill.last → 0 < bill.etii + bill.qhs
      → bill_at price terms bill
      ≡ (bill.kwh - (bill.etii + bill.qhs)) * price Baseline
      + bill.etii * price Etii
      + sum_by_day price bill.qhs (days_of bill) (λ j. qhs_class terms.kind (bill.first + j))
  unfolding share_at
  with_shares days some =
      let n : 0 < days_of bill = omega arith in
      bill-with price terms bill (some-given bill some)
      ∙ omega (
        arith,
        one_class price (bill.kwh - (bill.etii + bill.qhs)) (days_of bill) (λ j. Baseline) Baseline n (λ j h. refl),
        one_class price bill.etii (days_of bill) _ Etii n (λ j h. etii-from 0 terms.kind (bill.first + j) zero-le),
        by-day-cong price bill.qhs (days_of bill) _ (λ j. qhs_class terms.kind (bill.first + j)) (λ j. qhs-from 0 terms.kind (bill.first + j) zero-le),
      )

pub shares_rated : SharesRated
shares_rated = record { without_shares = without_shares; rate_without = λ terms bill etii qhs. rate-whole terms bill (none-given bill etii qhs); with_shares = with_shares; rate_with = λ terms bill some. rate-shared terms bill (some-given bill some); whole = shares_whole }

-- ---- stretches

summed : (price : Class → ℕ) (terms : Terms) (bill : Bill) → bill_at price terms bill ≡ bill_by_stretches price terms bill
unfolding bill_at
summed price terms bill = total-cong _ _ (λ s. share-stretches price terms.kind bill s.kwh s.certificate) (shares terms bill)

pub stretches_rated : StretchesRated
stretches_rated = record {
  any_cut = sum-over-stretches;
  cut = cut;
  at_most_three = at_most_three;
  summed = summed;
  changes = changes;
  whole = λ terms bill days within. sym (summed (λ c. 1) terms bill) ∙ omega (arith, bill-one-price 1 terms bill days within);
}

-- ---- without a change inside

module _ (price : Class → ℕ) (terms : Terms) (bill : Bill) (days : bill.first ≤ bill.last) where
  -- k kWh of one class, or none
  one : (k : ℕ) (class : ℕ → Class) → (0 < k → NoChangeInside class bill) → sum_by_day price k (days_of bill) (λ j. class (bill.first + j)) ≡ k * price (class bill.first)
  one zero class same = by-day-none price (days_of bill) (λ j. class (bill.first + j)) ∙ omega arith
  one (suc k) class same =
      one_class price (suc k) (days_of bill) (λ j. class (bill.first + j)) (class bill.first) (omega arith)
      (λ j h. same (omega arith) (bill.first + j) (omega arith) (omega arith))

  priced : bill.etii ≡ 0 → bill.qhs ≡ 0 → NoChangeInside (class_of terms) bill → bill_at price terms bill ≡ bill.kwh * price (class_of terms bill.first)
  priced etii qhs same = without_shares price terms bill etii qhs ∙ one bill.kwh (class_of terms) (λ some. same)

  shares_kept : 0 < bill.etii + bill.qhs → (0 < bill.qhs → NoChangeInside (qhs_class terms.kind) bill)
      → bill_at price terms bill
      ≡ (bill.kwh - (bill.etii + bill.qhs)) * price Baseline
      + bill.etii * price Etii
      + bill.qhs * price (qhs_class terms.kind bill.first)
  shares_kept some same = with_shares price terms bill days some ∙ omega (arith, one bill.qhs (qhs_class terms.kind) same)

no_day_inside : (certificate : Certificate) (kind : Kind) (bill : Bill) → All (λ d. bill.first < d → bill.last < d) (change_days certificate kind)
    → NoChangeInside (certified_class certificate kind) bill
no_day_inside certificate kind bill outside day from to =
    subst (λ (d : ℕ). certified_class certificate kind d ≡ certified_class certificate kind bill.first) (omega arith) (after (day - bill.first) (omega arith))
  where
    -- a day of the bill after its first is no day that doesn't lie inside
    other : (m : ℕ) → bill.first + suc m ≤ bill.last → (d : ℕ) → (bill.first < d → bill.last < d) → suc (bill.first + m) ≡ d → ⊥
    other m h d later e = let l : bill.last < d = later (omega arith) in omega arith

    after : (m : ℕ) → bill.first + m ≤ bill.last → certified_class certificate kind (bill.first + m) ≡ certified_class certificate kind bill.first
    after zero h = rw add-zero
    after (suc m) h = rw add-suc (changes certificate kind (bill.first + m) (all_map _ _ (other m h) (change_days certificate kind) outside) ∙ after m (omega arith))

as_before : (terms : Terms) (bill : Bill) → bill.first ≤ bill.last → All (λ s. 0 < s.kwh → NoChangeInside (certified_class s.certificate terms.kind) bill) (shares terms bill)
    → amount terms bill ≡ earlier_amount terms bill
unfolding amount bill_at share_at earlier_amount
as_before terms bill days same =
    total-all _ _ (shares terms bill)
    (all_map _ _ (λ s h. one (rate_of terms bill) terms bill days s.kwh (certified_class s.certificate terms.kind) h) (shares terms bill) same)

pub without_change_inside : WithoutChangeInside
unfolding amount cap
without_change_inside = record {
  no_day_inside = no_day_inside;
  as_before = as_before;
  kept = λ terms bill days etii qhs same. rw (rate-whole terms bill (none-given bill etii qhs)) (priced (rate_of terms bill) terms bill days etii qhs same);
  cap_kept = λ terms bill days etii qhs same. priced (cap_of terms bill) terms bill days etii qhs same;
  shares_kept = shares_kept;
}

-- ---- bounds

pub amounts_bounded : AmountsBounded
amounts_bounded = record { capped = amount-capped; fifty_bits = amount-bits }
