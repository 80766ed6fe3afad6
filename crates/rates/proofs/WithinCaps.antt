-- A class's rate is at most its cap, and below 10,000,000 ticks within document 01's range of S. Assumes nothing.
use Prim.Native.Nat.{ℕ, ◌*◌, ◌≤◌}
use native.Mathlib.Omega.{arith}
use lib.IntN.{pos, ◌-ℤ◌}
use Rattle.limits.specs.Limits.{highest_price}
use Rattle.basics.specs.Integers.{at_least_zero}
use Rattle.basics.proofs.Integers.{difference-at-least-zero}
use Rattle.rates.specs.declared.Fuel.{Fuel}
use Rattle.rates.specs.declared.Fuel.TheVariants.{Electricity, Gas}
use Rattle.rates.specs.declared.Class.{Class}
use Rattle.rates.specs.declared.Class.TheVariants.{Baseline, Etii, QhsOld, QhsNew}
use Rattle.rates.specs.declared.Prices.TheVariants.{Limited, Unlimited}
use Rattle.rates.specs.Prices.{prices_of, minimum_of}
use Rattle.rates.specs.Rates.{part, part_of, class_rate, class_cap}
use Rattle.rates.proofs.Parts.{part-limited, part-unlimited}

-- a part is at most the maximum discount, or of QHS at most S − QHS minimum
limited-le : (support maximum minimum R S : ℕ) → part (Limited support maximum minimum) R S ≤ maximum
limited-le support maximum minimum R S = omega (arith, part-limited support maximum minimum R S)

unlimited-le : (minimum R S : ℕ) → 10 * part (Unlimited minimum) R S ≤ 10 * at_least_zero (pos S -ℤ pos minimum)
unlimited-le minimum R S = omega (arith, part-unlimited minimum R S, difference-at-least-zero S minimum)

pub class-rate-capped : (fuel : Fuel) (class : Class) (R S : ℕ) → class_rate fuel class R S ≤ class_cap fuel class S
unfolding class_rate class_cap part_of
class-rate-capped Electricity Baseline R S = omega (arith, limited-le 30200 1961 30200 R S)
class-rate-capped Gas Baseline R S = omega (arith, limited-le 10700 697 10700 R S)
class-rate-capped Electricity Etii R S = omega (arith, limited-le 30200 1961 30200 R S, limited-le 18500 8900 18500 R S)
class-rate-capped Gas Etii R S = omega (arith, limited-le 10700 697 10700 R S, limited-le 9900 4000 9900 R S)
class-rate-capped Electricity QhsOld R S = unlimited-le _ R S
class-rate-capped Electricity QhsNew R S = unlimited-le _ R S
class-rate-capped Gas QhsOld R S = unlimited-le _ R S
class-rate-capped Gas QhsNew R S = unlimited-le _ R S

-- no rate within the paper's range of S is higher
abbrev pub highest_rate : ℕ
highest_rate = 10 * highest_price

held-le : (minimum S : ℕ) → S ≤ highest_price → 10 * at_least_zero (pos S -ℤ pos minimum) ≤ highest_rate
held-le minimum S h = omega (arith, difference-at-least-zero S minimum)

class-cap-low : (fuel : Fuel) (class : Class) (S : ℕ) → S ≤ highest_price → class_cap fuel class S ≤ highest_rate
unfolding class_cap
class-cap-low Electricity Baseline S h = omega arith
class-cap-low Gas Baseline S h = omega arith
class-cap-low Electricity Etii S h = omega arith
class-cap-low Gas Etii S h = omega arith
class-cap-low fuel QhsOld S h = held-le (minimum_of (prices_of fuel QhsOld)) S h
class-cap-low fuel QhsNew S h = held-le (minimum_of (prices_of fuel QhsNew)) S h

-- the rate of a class within the paper's ranges
pub class-rate-low : (fuel : Fuel) (class : Class) (R S : ℕ) → S ≤ highest_price → class_rate fuel class R S ≤ highest_rate
class-rate-low fuel class R S h = omega (arith, class-rate-capped fuel class R S, class-cap-low fuel class S h)
