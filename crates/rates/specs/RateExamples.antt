-- Document 01, "Prices per kWh": examples of the form of P1 to P12 that pin each cap, each price and each rule of a bill's class. Assumes
-- nothing.
use Rattle.std.specs.Prelude.{◌≡◌, List, [], ◌∷◌, ◌++◌, map, ℕ, ◌+◌, ◌-◌}
use Rattle.rates.specs.declared.Fuel.{Fuel}
use Rattle.rates.specs.declared.Fuel.TheVariants.{Electricity, Gas}
use Rattle.rates.specs.declared.Kind.{Kind}
use Rattle.rates.specs.declared.Kind.TheVariants.{Fixed, Variable, Flexible, Index}
use Rattle.rates.specs.declared.Certificate.{Certificate}
use Rattle.rates.specs.declared.Certificate.TheVariants.{None, Etii, Qhs}
use Rattle.rates.specs.Rates.{class_rate, qhs_class, class_cap}
use Rattle.rates.specs.TwelveRates.{Example, example, bill_class, rated}

-- the examples have the rates given
abbrev pub RatesGiven : List Example → Type 0
RatesGiven es = map rated es ≡ map (λ e. e.ticks) es

-- ---- caps: each is reached by a bill, so that none can be raised or lowered

-- the cap of an example's class
unfoldable pub cap_in : Example → ℕ
cap_in e = class_cap e.fuel (bill_class e) e.S

-- "baseline 19,610 electricity and 6,970 gas; ETII 68,183 and 30,091; QHS 10 times max(S − QHS minimum, 0)"
unfoldable pub caps : List Example
caps =
    example Electricity Flexible None 486 35000 67030 19610
    ∷ example Gas Flexible None 486 20000 30000 6970
    ∷ example Electricity Flexible (Etii 486) 486 35000 58330 68183
    ∷ example Gas Flexible (Etii 486) 486 20000 30000 30091
    ∷ example Electricity Flexible (Qhs 511) 791 50000 50000 160000
    ∷ example Gas Flexible (Qhs 511) 791 50000 50000 421700
    ∷ example Electricity Flexible (Qhs 511) 792 50000 50000 217600
    ∷ example Gas Flexible (Qhs 511) 792 50000 50000 435000
    ∷ []

pub record CapsAttained : Type 0 where
  -- each cap of the table is the one given, and the bill's rate is as high
  pub caps_given : map cap_in caps ≡ map (λ e. e.ticks) caps
  pub rates_as_high : RatesGiven caps
  -- a cap of QHS is reached at every S, where R is S
  pub qhs : (fuel : Fuel) (kind : Kind) (first S : ℕ) → class_rate fuel (qhs_class kind first) S S ≡ class_cap fuel (qhs_class kind first) S

-- ---- support prices and minimums: no discount at the price, and the first ticks where R, or S, is a mil above it

-- of a fuel, with a certificate, at a price that is both; a mil is 10 ticks, of the ETII part 7
abbrev pub from_price : Fuel → Certificate → (price ticks : ℕ) → List Example
from_price fuel certificate price ticks =
    example fuel Flexible certificate 486 price 90000 0
    ∷ example fuel Flexible certificate 486 (price + 1) 90000 ticks
    ∷ example fuel Flexible certificate 486 90000 price 0
    ∷ example fuel Flexible certificate 486 90000 (price + 1) ticks
    ∷ []

-- of QHS on a day, with S a mil below the minimum, at it, a mil above it, and the highest: there is no maximum
abbrev pub from_minimum : Fuel → (first minimum highest : ℕ) → List Example
from_minimum fuel first minimum highest =
    example fuel Flexible (Qhs 511) first 999999 (minimum - 1) 0
    ∷ example fuel Flexible (Qhs 511) first 999999 minimum 0
    ∷ example fuel Flexible (Qhs 511) first 999999 (minimum + 1) 10
    ∷ example fuel Flexible (Qhs 511) first 999999 999999 highest
    ∷ []

-- baseline 30,200 and 10,700; ETII 18,500 and 9,900; QHS 34,000 and 7,830, and from day 792 on 28,240 and 6,500
unfoldable pub first_discounts : List Example
first_discounts =
    from_price Electricity None 30200 10 ++ (from_price Gas None 10700 10
    ++ (from_price Electricity (Etii 486) 18500 7 ++ (from_price Gas (Etii 486) 9900 7
    ++ (from_minimum Electricity 791 34000 9659990 ++ (from_minimum Gas 791 7830 9921690
    ++ (from_minimum Electricity 792 28240 9717590 ++ from_minimum Gas 792 6500 9934990))))))

abbrev pub DiscountsBegin : Type 0
DiscountsBegin = RatesGiven first_discounts

-- ---- classes

-- a bill that begins the day before the effective day is baseline, and one that begins on it is of the class; of QHS R, where it is the
-- lesser; the new minimum from day 792 on, except to a fixed contract entered before it, whatever its price-fix day
unfoldable pub classes : List Example
classes =
    example Electricity Flexible (Etii 487) 486 35000 58330 19610
    ∷ example Electricity Flexible (Etii 487) 487 35000 58330 68183
    ∷ example Electricity Flexible (Qhs 512) 511 40000 50000 19610
    ∷ example Electricity Flexible (Qhs 512) 512 40000 50000 160000
    ∷ example Electricity Flexible (Qhs 511) 791 1000 50000 10000
    ∷ example Electricity Flexible (Qhs 511) 791 0 50000 0
    ∷ example Electricity (Fixed 0 791) (Qhs 511) 792 40000 50000 160000
    ∷ example Gas (Fixed 0 791) (Qhs 511) 792 40000 20000 121700
    ∷ example Gas (Fixed 0 792) (Qhs 511) 792 40000 20000 135000
    ∷ example Electricity (Fixed 0 792) (Qhs 511) 791 40000 50000 160000
    ∷ example Electricity (Fixed 0 792) (Qhs 511) 792 40000 50000 217600
    ∷ example Electricity (Fixed 800 791) (Qhs 511) 801 40000 50000 160000
    ∷ example Electricity (Fixed 791 800) (Qhs 511) 792 40000 50000 217600
    ∷ example Electricity (Fixed 791 800) (Qhs 511) 851 40000 50000 217600
    ∷ example Electricity Variable (Qhs 511) 792 40000 50000 217600
    ∷ example Electricity Index (Qhs 511) 792 40000 50000 217600
    ∷ []

abbrev pub ClassesApplied : Type 0
ClassesApplied = RatesGiven classes
