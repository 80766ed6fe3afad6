-- The examples of rates, by computation; the caps of QHS, by the law of a part without a maximum. Assumes nothing.
use mathlib.Core.Path.{◌≡◌, refl}
use mathlib.Core.Bool.{Bool, true, false, not, cond, ◌&&◌}
use Prim.Native.Nat.{ℕ, ◌*◌}
use native.Mathlib.Omega.{arith}
use lib.Dec.{leb}
use lib.IntN.{pos, ◌-ℤ◌}
use Rattle.limits.specs.Limits.{new_minimum_day}
use Rattle.basics.specs.Integers.{at_least_zero}
use Rattle.basics.proofs.Integers.{difference-at-least-zero}
use Rattle.rates.specs.declared.Fuel.{Fuel}
use Rattle.rates.specs.declared.Fuel.TheVariants.{Electricity, Gas}
use Rattle.rates.specs.declared.Kind.{Kind}
use Rattle.rates.specs.declared.Class.TheVariants.{QhsOld, QhsNew}
use Rattle.rates.specs.declared.Prices.TheVariants.{Unlimited}
use Rattle.rates.specs.Rates.{least_term, part, part_of, class_rate, class_cap, entered_early, qhs_class, class_of}
use Rattle.rates.specs.TwelveRates.{example, terms_in, bill_class, rated}
use Rattle.rates.specs.RateExamples.{cap_in, caps, first_discounts, classes, CapsAttained, DiscountsBegin, ClassesApplied}
use Rattle.rates.proofs.Parts.{part-unlimited}

-- where R is S, a part without a maximum is max(S − minimum, 0)
whole_part : (minimum S : ℕ) → 10 * part (Unlimited minimum) S S ≡ 10 * at_least_zero (pos S -ℤ pos minimum)
whole_part minimum S = omega (arith, part-unlimited minimum S S, difference-at-least-zero S minimum)

qhs : (fuel : Fuel) (kind : Kind) (first S : ℕ) → class_rate fuel (qhs_class kind first) S S ≡ class_cap fuel (qhs_class kind first) S
unfolding qhs_class class_rate class_cap part_of
qhs fuel kind first S = by-class fuel (leb new_minimum_day first && not (entered_early kind))
  where
    by-class : (fuel : Fuel) (new : Bool) → let class = cond new QhsNew QhsOld in class_rate fuel class S S ≡ class_cap fuel class S
    by-class Electricity true = whole_part _ S
    by-class Electricity false = whole_part _ S
    by-class Gas true = whole_part _ S
    by-class Gas false = whole_part _ S

pub caps_attained : CapsAttained
unfolding caps cap_in example terms_in bill_class rated class_of qhs_class class_rate class_cap part_of part least_term
caps_attained = record { caps_given = refl; rates_as_high = refl; qhs = qhs }

pub discounts_begin : DiscountsBegin
unfolding first_discounts example terms_in bill_class rated class_of qhs_class class_rate part_of part least_term
discounts_begin = refl

pub classes_applied : ClassesApplied
unfolding classes example terms_in bill_class rated class_of qhs_class class_rate part_of part least_term
classes_applied = refl
