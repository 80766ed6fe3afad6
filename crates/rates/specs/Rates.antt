-- Document 01, "Prices per kWh": parts, the rates of the classes, a bill's class and a class's cap. R is the reference wholesale price and
-- S the supply price, in mils; rates and caps are in ticks (a tick is a ten-thousandth of a penny). Assumes nothing.
use Rattle.std.specs.Prelude.{Bool, false, not, cond, ◌&&◌, ℕ, ◌+◌, ◌*◌, leb, ltb, ℤ, pos, ◌-ℤ◌}
use Rattle.limits.specs.Limits.{new_minimum_day}
use Rattle.basics.specs.Integers.{minℤ, at_least_zero}
use Rattle.rates.specs.declared.Fuel.{Fuel}
use Rattle.rates.specs.declared.Fuel.TheVariants.{Electricity, Gas}
use Rattle.rates.specs.declared.Kind.{Kind}
use Rattle.rates.specs.declared.Kind.TheVariants.{Fixed, Variable, Flexible, Index}
use Rattle.rates.specs.declared.Certificate.{Certificate}
use Rattle.rates.specs.declared.Certificate.TheVariants.{None}
use Rattle.rates.specs.declared.Certificate.TheVariants as certificate
use Rattle.rates.specs.declared.Terms.{Terms}
use Rattle.rates.specs.declared.Class.{Class}
use Rattle.rates.specs.declared.Class.TheVariants.{Baseline, Etii, QhsOld, QhsNew}
use Rattle.rates.specs.declared.Prices.{Prices}
use Rattle.rates.specs.declared.Prices.TheVariants.{Limited, Unlimited}
use Rattle.rates.specs.Prices.{prices_of, minimum_of}

-- the least of R − support price, maximum discount and S − minimum; of QHS the lesser of R and S − QHS minimum
unfoldable pub least_term : Prices → (R S : ℕ) → ℤ
least_term (Limited support maximum minimum) R S = minℤ (minℤ (pos R -ℤ pos support) (pos maximum)) (pos S -ℤ pos minimum)
least_term (Unlimited minimum) R S = minℤ (pos R) (pos S -ℤ pos minimum)

-- a part: max(min(R − support price, maximum discount, S − minimum), 0), and of QHS max(min(R, S − QHS minimum), 0)
unfoldable pub part : Prices → (R S : ℕ) → ℕ
part prices R S = at_least_zero (least_term prices R S)

-- the part of a class of a fuel
unfoldable pub part_of : Fuel → Class → (R S : ℕ) → ℕ
part_of fuel class R S = part (prices_of fuel class) R S

-- a class's rate. Baseline: 10 times the baseline part; ETII: 3 times the baseline part plus 7 times the ETII part, each part first held
-- at zero; QHS: 10 times its part
unfoldable pub class_rate : Fuel → Class → (R S : ℕ) → ℕ
class_rate fuel Baseline R S = 10 * part_of fuel Baseline R S
class_rate fuel Etii R S = 3 * part_of fuel Baseline R S + 7 * part_of fuel Etii R S
class_rate fuel QhsOld R S = 10 * part_of fuel QhsOld R S
class_rate fuel QhsNew R S = 10 * part_of fuel QhsNew R S

-- the QHS minimum: the new one applies when the bill's first day is 792 or later, except to a fixed contract entered before day 792
abbrev pub entered_early : Kind → Bool
entered_early (Fixed fix entry) = ltb entry new_minimum_day
entered_early Variable = false
entered_early Flexible = false
entered_early Index = false

unfoldable pub qhs_class : Kind → (first : ℕ) → Class
qhs_class kind first = cond (leb new_minimum_day first && not (entered_early kind)) QhsNew QhsOld

-- a bill's class: a certificate applies to bills whose first day is on or after the effective day; earlier bills are baseline
abbrev pub certified_class : Certificate → Kind → (first : ℕ) → Class
certified_class None kind first = Baseline
certified_class (certificate.Etii effective) kind first = cond (leb effective first) Etii Baseline
certified_class (certificate.Qhs effective) kind first = cond (leb effective first) (qhs_class kind first) Baseline

unfoldable pub class_of : Terms → (first : ℕ) → Class
class_of terms first = certified_class terms.certificate terms.kind first

-- a class's cap: baseline 19,610 electricity and 6,970 gas; ETII 68,183 and 30,091; QHS 10 times max(S − QHS minimum, 0)
abbrev pub baseline_cap : Fuel → ℕ
baseline_cap Electricity = 19610
baseline_cap Gas = 6970

abbrev pub etii_cap : Fuel → ℕ
etii_cap Electricity = 68183
etii_cap Gas = 30091

unfoldable pub class_cap : Fuel → Class → (S : ℕ) → ℕ
class_cap fuel Baseline S = baseline_cap fuel
class_cap fuel Etii S = etii_cap fuel
class_cap fuel QhsOld S = 10 * at_least_zero (pos S -ℤ pos (minimum_of (prices_of fuel QhsOld)))
class_cap fuel QhsNew S = 10 * at_least_zero (pos S -ℤ pos (minimum_of (prices_of fuel QhsNew)))
