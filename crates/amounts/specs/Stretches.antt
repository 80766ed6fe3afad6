-- Document 02, paper 3: a share of a bill by stretches, "each stretch with one class and one QHS minimum". Assumes nothing.
use Rattle.std.specs.Prelude.{◌≡◌, cond, List, [], ◌∷◌, ℕ, ◌+◌, ◌-◌, ◌*◌, ◌≤◌, ◌<◌, min, max}
use Rattle.limits.specs.Limits.{new_minimum_day}
use Rattle.rates.specs.declared.Kind.{Kind}
use Rattle.rates.specs.declared.Certificate.{Certificate}
use Rattle.rates.specs.declared.Certificate.TheVariants.{None}
use Rattle.rates.specs.declared.Certificate.TheVariants as certificate
use Rattle.rates.specs.declared.Class.{Class}
use Rattle.rates.specs.declared.Class.TheVariants.{Baseline, Etii, QhsOld, QhsNew}
use Rattle.rates.specs.Rates.{entered_early}
use Rattle.amounts.specs.Days.{between}

-- a stretch: its class, and its end, the day after its last; it begins where the one before it ends
pub record Stretch : Type 0 where
  pub class : Class
  pub end : ℕ

abbrev pub stretch : Class → (end : ℕ) → Stretch
stretch class end = record { class = class; end = end }

-- the days from a until n are cut into these stretches, the days of each of one class
abbrev pub Cut : (n : ℕ) → (class : ℕ → Class) → (a : ℕ) → List Stretch → Type 0
Cut n class a [] = a ≡ n
Cut n class a (s ∷ ss) = (a ≤ s.end) × ((j : ℕ) → a ≤ j → j < s.end → class j ≡ s.class) × Cut n class s.end ss

-- k kWh spread over n days, from day a on: "Each stretch .. gets the difference between its two ends", and the sum over stretches
abbrev pub by_stretch : (price : Class → ℕ) → (k n a : ℕ) → List Stretch → ℕ
by_stretch price k n a [] = 0
by_stretch price k n a (s ∷ ss) = between k n a s.end * price s.class + by_stretch price k n s.end ss

-- how many of the n days from a first day on lie before a day of the calendar
abbrev pub days_before : (first n day : ℕ) → ℕ
days_before first n day = min (day - first) n

-- the days on which a certificate's class changes: its effective day, and of QHS the day of the new minimum, unless the contract was entered
-- early
abbrev pub change_days : Certificate → Kind → List ℕ
change_days None kind = []
change_days (certificate.Etii effective) kind = effective ∷ []
change_days (certificate.Qhs effective) kind = effective ∷ cond (entered_early kind) [] (new_minimum_day ∷ [])

-- the stretches of n days from a first day on under a certificate, cut at these days; one that has no day ends where it begins
abbrev pub stretches_of : Certificate → Kind → (first n : ℕ) → List Stretch
stretches_of None kind first n = stretch Baseline n ∷ []
stretches_of (certificate.Etii effective) kind first n = stretch Baseline (days_before first n effective) ∷ stretch Etii n ∷ []
stretches_of (certificate.Qhs effective) kind first n =
    stretch Baseline (days_before first n effective)
    ∷ cond (entered_early kind)
    (stretch QhsOld n ∷ [])
    (stretch QhsOld (days_before first n (max effective new_minimum_day)) ∷ stretch QhsNew n ∷ [])
