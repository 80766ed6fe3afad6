-- The class of each day under a certificate, its changes, and the stretches that they cut. Assumes nothing.
use mathlib.Core.Path.{◌≡◌, refl, sym, ◌∙◌}
use mathlib.Core.Bool.{true, false, cond}
use mathlib.Core.List.{[], ◌∷◌}
use Prim.Native.Nat.{ℕ, suc, ◌+◌, ◌≤◌, ◌<◌, zero-le}
use native.Mathlib.Omega.{arith}
use lib.Dec.{leb}
use lib.ListN.{length}
use Rattle.limits.specs.Limits.{new_minimum_day}
use Rattle.basics.specs.Lists.{All}
use Rattle.basics.proofs.Tests.{either, yes_le, no_le, le_yes, le-no}
use Rattle.rates.specs.declared.Kind.{Kind}
use Rattle.rates.specs.declared.Certificate.{Certificate}
use Rattle.rates.specs.declared.Certificate.TheVariants.{None, Etii, Qhs}
use Rattle.rates.specs.declared.Class.TheVariants as class
use Rattle.rates.specs.Rates.{entered_early, qhs_class, certified_class}
use Rattle.amounts.specs.Stretches.{Cut, change_days, stretches_of}

-- ---- the QHS class of a day

qhs-early : (kind : Kind) (day : ℕ) → entered_early kind ≡ true → qhs_class kind day ≡ class.QhsOld
unfolding qhs_class
qhs-early kind day e = either (leb new_minimum_day day) (λ l. rw (l, e)) (λ l. rw l)

qhs-old : (kind : Kind) (day : ℕ) → day < new_minimum_day → qhs_class kind day ≡ class.QhsOld
unfolding qhs_class
qhs-old kind day h = rw (no_le new_minimum_day day h)

qhs-new : (kind : Kind) (day : ℕ) → entered_early kind ≡ false → new_minimum_day ≤ day → qhs_class kind day ≡ class.QhsNew
unfolding qhs_class
qhs-new kind day e h = rw (yes_le new_minimum_day day h, e)

-- ---- before the effective day, and from it on

etii-before : (e : ℕ) (kind : Kind) (day : ℕ) → day < e → certified_class (Etii e) kind day ≡ class.Baseline
etii-before e kind day h = rw (no_le e day h)

pub etii-from : (e : ℕ) (kind : Kind) (day : ℕ) → e ≤ day → certified_class (Etii e) kind day ≡ class.Etii
etii-from e kind day h = rw (yes_le e day h)

qhs-before : (e : ℕ) (kind : Kind) (day : ℕ) → day < e → certified_class (Qhs e) kind day ≡ class.Baseline
qhs-before e kind day h = rw (no_le e day h)

pub qhs-from : (e : ℕ) (kind : Kind) (day : ℕ) → e ≤ day → certified_class (Qhs e) kind day ≡ qhs_class kind day
qhs-from e kind day h = rw (yes_le e day h)

-- ---- a class changes on the days of change alone

-- that a day has come by is the same of the day before, unless it is that day
same-side : (d day : ℕ) → (suc day ≡ d → ⊥) → leb d (suc day) ≡ leb d day
same-side d day n = either (leb d day)
    (λ y. let l : d ≤ day = le_yes d day y in yes_le d (suc day) (omega arith) ∙ sym y)
    (λ f. let l : day < d = le-no d day f in no_le d (suc day) (omega (arith, n)) ∙ sym f)

qhs-changes : (kind : Kind) (day : ℕ) → All (λ d. suc day ≡ d → ⊥) (cond (entered_early kind) [] (new_minimum_day ∷ [])) → qhs_class kind (suc day) ≡ qhs_class kind day
qhs-changes kind day other = either (entered_early kind)
    (λ t. qhs-early kind (suc day) t ∙ sym (qhs-early kind day t))
    (λ t. late t (rw t at other))
  where
    late : entered_early kind ≡ false → (suc day ≡ new_minimum_day → ⊥) × Unit {0} → qhs_class kind (suc day) ≡ qhs_class kind day
    late t only = either (leb new_minimum_day day)
        (λ y. let l : new_minimum_day ≤ day = le_yes new_minimum_day day y in qhs-new kind (suc day) t (omega arith) ∙ sym (qhs-new kind day t l))
        (λ f. let l : day < new_minimum_day = le-no new_minimum_day day f in qhs-old kind (suc day) (omega (arith, only.0)) ∙ sym (qhs-old kind day l))

pub changes : (certificate : Certificate) (kind : Kind) (day : ℕ) → All (λ d. suc day ≡ d → ⊥) (change_days certificate kind)
    → certified_class certificate kind (suc day) ≡ certified_class certificate kind day
changes None kind day other = refl
changes (Etii effective) kind day other = rw (same-side effective day other.0)
changes (Qhs effective) kind day other = rw (same-side effective day other.0, qhs-changes kind day other.1)

-- ---- the stretches of a certificate

pub at_most_three : (certificate : Certificate) (kind : Kind) (first n : ℕ) → length (stretches_of certificate kind first n) ≤ 3
at_most_three None kind first n = omega arith
at_most_three (Etii e) kind first n = omega arith
at_most_three (Qhs e) kind first n = either (entered_early kind) (λ t. rw t (omega arith)) (λ t. rw t (omega arith))

pub cut : (certificate : Certificate) (kind : Kind) (first n : ℕ) → Cut n (λ j. certified_class certificate kind (first + j)) 0 (stretches_of certificate kind first n)
cut None kind first n = (zero-le, (λ j l h. refl), refl)
cut (Etii e) kind first n =
    (zero-le, (λ j l h. etii-before e kind (first + j) (omega arith)), (omega arith, (λ j l h. etii-from e kind (first + j) (omega arith)), refl))
cut (Qhs e) kind first n = either (entered_early kind) early late
  where
    early : entered_early kind ≡ true → Cut n (λ j. certified_class (Qhs e) kind (first + j)) 0 (stretches_of (Qhs e) kind first n)
    early t = rw t (
      zero-le,
      (λ j l h. qhs-before e kind (first + j) (omega arith)),
      (omega arith, (λ j l h. qhs-from e kind (first + j) (omega arith) ∙ qhs-early kind (first + j) t), refl),
    )

    late : entered_early kind ≡ false → Cut n (λ j. certified_class (Qhs e) kind (first + j)) 0 (stretches_of (Qhs e) kind first n)
    late t = rw t (
      zero-le,
      (λ j l h. qhs-before e kind (first + j) (omega arith)),
      (
        omega arith,
        (λ j l h. qhs-from e kind (first + j) (omega arith) ∙ qhs-old kind (first + j) (omega arith)),
        (omega arith, (λ j l h. qhs-from e kind (first + j) (omega arith) ∙ qhs-new kind (first + j) t (omega arith)), refl),
      ),
    )
