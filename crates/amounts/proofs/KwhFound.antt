-- A bill's kWh in each class, by its shares and certificate: what the code finds comes to the sum over stretches, and so over days. Assumes
-- nothing.
use mathlib.Core.Path.{◌≡◌, sym, ap, ◌∙◌}
use mathlib.Core.Bool.{true, false}
use Prim.Native.Nat.{ℕ, ◌+◌, ◌-◌, ◌*◌, ◌≤◌, ◌<◌, max}
use native.Mathlib.Omega.{arith}
use Rattle.limits.specs.Limits.{new_minimum_day}
use Rattle.basics.proofs.Tests.{either}
use Rattle.rates.specs.declared.Terms.{Terms}
use Rattle.rates.specs.declared.Certificate.{Certificate}
use Rattle.rates.specs.declared.Certificate.TheVariants.{None, Etii, Qhs}
use Rattle.rates.specs.declared.Class.{Class}
use Rattle.rates.specs.declared.Class.TheVariants as class
use Rattle.rates.specs.declared.Kind.{Kind}
use Rattle.rates.specs.Rates.{entered_early}
use Rattle.amounts.specs.declared.Bill.{Bill}
use Rattle.amounts.specs.declared.KwhByClass.{KwhByClass}
use Rattle.amounts.specs.Amounts.{days_of, share, has_shares, share_at, bill_at, rate_of, amount, Rateable}
use Rattle.amounts.specs.Stretches.{by_stretch, stretches_of}
use Rattle.amounts.specs.KwhFound.{kwh_before, with_new_minimum, at_prices, KwhOf}
use Rattle.amounts.proofs.Days.{between_ends, between_first, between-last, in-first-all, before-first, after_last, before-most, before-grows}
use Rattle.amounts.proofs.Stretches.{sum-over-stretches}
use Rattle.amounts.proofs.Certificates.{cut}
use Rattle.amounts.proofs.Shares.{bill-without, bill-with}

-- the kWh with the new minimum, and those before the day, are no more than there are
new-most : (kind : Kind) (bill : Bill) (k day : ℕ) → bill.first ≤ bill.last → kwh_before bill k day + with_new_minimum kind bill k day ≤ k
new-most kind bill k day days = either (entered_early kind)
    (λ t. rw t (omega (arith, before-most k (days_of bill) bill.first day (omega arith))))
    (λ t. rw t (omega (
      arith,
      before-most k (days_of bill) bill.first (max day new_minimum_day) (omega arith),
      before-grows k (days_of bill) bill.first day (max day new_minimum_day) (omega arith),
    )))

-- there are none where the bill ends before the day of the new minimum
pub ends-before-new-minimum : (kind : Kind) (bill : Bill) (k day : ℕ) → bill.first ≤ bill.last → bill.last < new_minimum_day → with_new_minimum kind bill k day ≡ 0
ends-before-new-minimum kind bill k day days before =
    either (entered_early kind) (λ t. rw t) (λ t. rw t (omega (arith, after_last k bill.first bill.last (max day new_minimum_day) days (omega arith))))

pub ruleset new_minimum = (ends-before-new-minimum, before-most, before-grows)

-- ---- a share by the stretches of its certificate

module _ (price : Class → ℕ) (kind : Kind) (bill : Bill) (k : ℕ) where
  pub share-stretches : (c : Certificate) → share_at price kind bill (share k c) ≡ by_stretch price k (days_of bill) 0 (stretches_of c kind bill.first (days_of bill))
  unfolding share_at
  share-stretches c = sum-over-stretches price k (days_of bill) _ (stretches_of c kind bill.first (days_of bill)) (cut c kind bill.first (days_of bill))

  module _ (days : bill.first ≤ bill.last) where
    some-days : 0 < days_of bill
    some-days = omega arith

    share-none : share_at price kind bill (share k None) ≡ k * price class.Baseline
    share-none = share-stretches None ∙ rw (between_first, in-first-all k (days_of bill) some-days) (omega arith)

    share-etii : (e : ℕ) → share_at price kind bill (share k (Etii e)) ≡ kwh_before bill k e * price class.Baseline + (k - kwh_before bill k e) * price class.Etii
    share-etii e = share-stretches (Etii e) ∙ rw (between_first, between-last _ _ _ some-days) (omega arith)

    share-qhs : (e : ℕ)
        → share_at price kind bill (share k (Qhs e))
        ≡ kwh_before bill k e * price class.Baseline
        + (k - kwh_before bill k e - with_new_minimum kind bill k e) * price class.QhsOld
        + with_new_minimum kind bill k e * price class.QhsNew
    share-qhs e = either (entered_early kind)
        (λ t.
        let old : k - kwh_before bill k e ≡ k - kwh_before bill k e - 0 = omega arith in
        share-stretches (Qhs e) ∙ rw (t, between_first, between-last _ _ _ some-days) (omega (arith, ap (λ (n : ℕ). n * price class.QhsOld) old)))
        (λ t.
        let new : ℕ = kwh_before bill k (max e new_minimum_day) in
        let old : new - kwh_before bill k e ≡ k - kwh_before bill k e - (k - new) = omega (
          arith,
          before-most k (days_of bill) bill.first (max e new_minimum_day) some-days,
          before-grows k (days_of bill) bill.first e (max e new_minimum_day) (omega arith),
        ) in
        share-stretches (Qhs e)
        ∙ rw (t, between_first, between-last _ _ _ some-days, between_ends) (omega (arith, ap (λ (n : ℕ). n * price class.QhsOld) old)))

-- ---- what the code finds: without shares by the certificate, and with shares

module _ (terms : Terms) (bill : Bill) (k : KwhByClass) (ok : Rateable bill) where
  module _ (none : has_shares bill ≡ false) where
    under : (price : Class → ℕ) (c : Certificate) → terms.certificate ≡ c → bill_at price terms bill ≡ share_at price terms.kind bill (share bill.kwh c)
    under price c e = rw (sym e) (bill-without price terms bill none)

    pub kwh-none : terms.certificate ≡ None → k.baseline ≡ bill.kwh → k.etii ≡ 0 → k.old ≡ 0 → k.new ≡ 0 → KwhOf terms bill k
    kwh-none e baseline etii old new = record {
      priced = λ price. under price None e ∙ share-none price terms.kind bill bill.kwh ok.days ∙ rw (baseline, etii, old, new) (omega arith);
      whole = omega arith;
    }

    pub kwh-etii : (day : ℕ) → terms.certificate ≡ Etii day → k.baseline ≡ kwh_before bill bill.kwh day → k.etii ≡ bill.kwh - k.baseline → k.old ≡ 0 → k.new ≡ 0
        → KwhOf terms bill k
    kwh-etii day e baseline etii old new = record {
      priced = λ price. under price (Etii day) e ∙ share-etii price terms.kind bill bill.kwh ok.days day ∙ rw (etii, baseline, old, new) (omega arith);
      whole = omega (arith, before-most bill.kwh (days_of bill) bill.first day (omega arith));
    }

    pub kwh-qhs : (day : ℕ) → terms.certificate ≡ Qhs day → k.baseline ≡ kwh_before bill bill.kwh day → k.etii ≡ 0 → k.old ≡ bill.kwh - k.baseline - k.new
        → k.new ≡ with_new_minimum terms.kind bill bill.kwh day → KwhOf terms bill k
    kwh-qhs day e baseline etii old new = record {
      priced = λ price. under price (Qhs day) e ∙ share-qhs price terms.kind bill bill.kwh ok.days day ∙ rw (old, baseline, etii, new) (omega arith);
      whole = omega (arith, new-most terms.kind bill bill.kwh day ok.days);
    }

  pub kwh-shares : has_shares bill ≡ true → k.baseline ≡ bill.kwh - (bill.etii + bill.qhs) → k.etii ≡ bill.etii → k.old ≡ bill.qhs - k.new
      → k.new ≡ with_new_minimum terms.kind bill bill.qhs 0 → KwhOf terms bill k
  kwh-shares some baseline etii old new = record { priced = priced; whole = omega (arith, ok.shares, new-most terms.kind bill bill.qhs 0 ok.days) }
    where
      from-0 : (k : ℕ) → kwh_before bill k 0 ≡ 0
      from-0 k = before-first k (days_of bill) bill.first 0 (omega arith)

      priced : (price : Class → ℕ) → bill_at price terms bill ≡ at_prices price k
      priced price =
          let all-etii : bill.etii - 0 ≡ k.etii = omega arith in
          let all-old : bill.qhs - 0 - k.new ≡ k.old = omega arith in
          bill-with price terms bill some
          ∙ rw (
            share-none price terms.kind bill (bill.kwh - (bill.etii + bill.qhs)) ok.days,
            share-etii price terms.kind bill bill.etii ok.days 0,
            share-qhs price terms.kind bill bill.qhs ok.days 0,
            from-0 bill.etii,
            from-0 bill.qhs,
            sym new,
            sym baseline,
          )
          (omega (arith, ap (λ (n : ℕ). n * price class.Etii) all-etii, ap (λ (n : ℕ). n * price class.QhsOld) all-old))

-- the kWh in each class, each at the rate of its class, are the amount
pub at-the-rates : (terms : Terms) (bill : Bill) (k : KwhByClass) → KwhOf terms bill k → at_prices (rate_of terms bill) k ≡ amount terms bill
unfolding amount
at-the-rates terms bill k of = sym (of.priced (rate_of terms bill))
