-- A bill over its shares: without shares all of it is under the terms' certificate, and with shares the rest is under none. Assumes
-- nothing.
use mathlib.Core.Path.{◌≡◌, ap, ◌∙◌}
use mathlib.Core.Bool.{true, false, not}
use Prim.Native.Nat.{ℕ, ◌+◌, ◌-◌, ◌*◌, ◌≤◌, ◌<◌}
use native.Mathlib.Omega.{arith}
use lib.Dec.{eqb}
use Rattle.basics.specs.Lists.{total}
use Rattle.basics.proofs.Lists.{total-cong, total-le, total-times}
use Rattle.basics.proofs.Tests.{either, not-no, eq_yes, no_eq, or-no-left, or-no-right}
use Rattle.rates.specs.declared.Terms.{Terms}
use Rattle.rates.specs.declared.Certificate.{Certificate}
use Rattle.rates.specs.declared.Certificate.TheVariants.{None, Etii, Qhs}
use Rattle.rates.specs.declared.Class.{Class}
use Rattle.rates.specs.declared.Class.TheVariants.{Baseline}
use Rattle.rates.specs.Rates.{class_rate, class_of}
use Rattle.amounts.specs.declared.Bill.{Bill}
use Rattle.amounts.specs.Amounts.{days_of, share, has_shares, rest_certificate, shares, share_at, bill_at, amount, rate}
use Rattle.amounts.proofs.Days.{by-day-none, by-day-le}
use Rattle.amounts.proofs.Stretches.{one-price}

-- ---- whether a bill has shares

pub none-given : (bill : Bill) → bill.etii ≡ 0 → bill.qhs ≡ 0 → has_shares bill ≡ false
unfolding has_shares
none-given bill etii qhs = rw (etii, qhs)

pub some-given : (bill : Bill) → 0 < bill.etii + bill.qhs → has_shares bill ≡ true
unfolding has_shares
some-given bill h = either (eqb bill.etii 0) (λ y. rw (y, no_eq bill.qhs 0 (λ z. omega (arith, eq_yes bill.etii 0 y)))) (λ n. rw n)

given-none : (bill : Bill) → has_shares bill ≡ false → (bill.etii ≡ 0) × (bill.qhs ≡ 0)
unfolding has_shares
given-none bill none =
    (eq_yes _ _ (not-no _ (or-no-left _ _ none)), eq_yes _ _ (not-no _ (or-no-right (not (eqb bill.etii 0)) _ none)))

pub certificate-kept : (terms : Terms) (bill : Bill) → has_shares bill ≡ false → rest_certificate terms bill ≡ terms.certificate
unfolding rest_certificate
certificate-kept terms bill none = rw none

pub set_aside : (terms : Terms) (bill : Bill) → has_shares bill ≡ true → rest_certificate terms bill ≡ None
unfolding rest_certificate
set_aside terms bill some = rw some

-- so that the amount is that under any other certificate
pub amount-set-aside : (terms other : Terms) (bill : Bill) → has_shares bill ≡ true → terms.fuel ≡ other.fuel → terms.kind ≡ other.kind → amount terms bill ≡ amount other bill
unfolding amount bill_at shares rest_certificate
amount-set-aside terms other bill some fuel kind = rw (some, fuel, kind)

-- the rate answered is the baseline one, or that of the first day's class
pub rate-shared : (terms : Terms) (bill : Bill) → has_shares bill ≡ true → rate terms bill ≡ class_rate terms.fuel Baseline bill.reference bill.supply
unfolding rate
rate-shared terms bill some = rw (set_aside terms bill some)

pub rate-whole : (terms : Terms) (bill : Bill) → has_shares bill ≡ false → rate terms bill ≡ class_rate terms.fuel (class_of terms bill.first) bill.reference bill.supply
unfolding rate class_of
rate-whole terms bill none = rw (certificate-kept terms bill none)

pub ruleset rates = (rate-shared, rate-whole)

-- ---- the shares have all of a bill's kWh

pub shares_whole : (terms : Terms) (bill : Bill) → bill.etii + bill.qhs ≤ bill.kwh → total (λ s. s.kwh) (shares terms bill) ≡ bill.kwh
unfolding shares
shares_whole terms bill h = omega arith

-- ---- a bill at a price of each class

module _ (price : Class → ℕ) (terms : Terms) (bill : Bill) where
  -- a share of no kWh comes to nothing
  no-kwh : (c : Certificate) (k : ℕ) → k ≡ 0 → share_at price terms.kind bill (share k c) ≡ 0
  unfolding share_at
  no-kwh c k e = ap (λ (n : ℕ). share_at price terms.kind bill (share n c)) e ∙ by-day-none price (days_of bill) _

  pub bill-without : has_shares bill ≡ false → bill_at price terms bill ≡ share_at price terms.kind bill (share bill.kwh terms.certificate)
  unfolding bill_at shares
  bill-without none =
      let given = given-none bill none in
      let whole : bill.kwh - (bill.etii + bill.qhs) ≡ bill.kwh = omega (arith, given.0, given.1) in
      rw (whole, certificate-kept terms bill none)
      (omega (arith, no-kwh (Etii 0) bill.etii given.0, no-kwh (Qhs 0) bill.qhs given.1))

  pub bill-with : has_shares bill ≡ true
      → bill_at price terms bill
      ≡ share_at price terms.kind bill (share (bill.kwh - (bill.etii + bill.qhs)) None)
      + share_at price terms.kind bill (share bill.etii (Etii 0))
      + share_at price terms.kind bill (share bill.qhs (Qhs 0))
  unfolding bill_at shares
  bill-with some = rw (set_aside terms bill some) (omega arith)

-- greater prices give more, and one price for every class gives kWh times it
pub bill-le : (p q : Class → ℕ) (terms : Terms) (bill : Bill) → ((c : Class) → p c ≤ q c) → bill_at p terms bill ≤ bill_at q terms bill
unfolding bill_at share_at
bill-le p q terms bill l = total-le _ _ (λ s. by-day-le p q s.kwh (days_of bill) _ l) (shares terms bill)

pub bill-one-price : (p : ℕ) (terms : Terms) (bill : Bill) → bill.first ≤ bill.last → bill.etii + bill.qhs ≤ bill.kwh → bill_at (λ c. p) terms bill ≡ bill.kwh * p
unfolding bill_at share_at
bill-one-price p terms bill days within =
    total-cong _ (λ s. s.kwh * p) (λ s. one-price p s.kwh (days_of bill) _ (omega arith)) (shares terms bill)
    ∙ total-times (λ s. s.kwh) p (shares terms bill)
    ∙ ap (λ (n : ℕ). n * p) (shares_whole terms bill within)
