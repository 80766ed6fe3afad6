-- Document 01, "Twelve rates, P1 to P12": the table, under one proposition. Assumes nothing.
use Rattle.std.specs.Prelude.{◌≡◌, List, [], ◌∷◌, map, ℕ}
use Rattle.rates.specs.declared.Fuel.{Fuel}
use Rattle.rates.specs.declared.Fuel.TheVariants.{Electricity, Gas}
use Rattle.rates.specs.declared.Kind.{Kind}
use Rattle.rates.specs.declared.Kind.TheVariants.{Fixed, Flexible}
use Rattle.rates.specs.declared.Certificate.{Certificate}
use Rattle.rates.specs.declared.Certificate.TheVariants.{None, Etii, Qhs}
use Rattle.rates.specs.declared.Terms.{Terms}
use Rattle.rates.specs.declared.Class.{Class}
use Rattle.rates.specs.Rates.{class_rate, class_of}

-- a row of the table: the terms that a bill takes, its first day, R and S, and the rate in ticks
pub record Example : Type 0 where
  pub fuel : Fuel
  pub kind : Kind
  pub certificate : Certificate
  pub first : ℕ
  pub R : ℕ
  pub S : ℕ
  pub ticks : ℕ

unfoldable pub example : Fuel → Kind → Certificate → (first R S ticks : ℕ) → Example
example f k c d R S t = record { fuel = f; kind = k; certificate = c; first = d; R = R; S = S; ticks = t }

-- the class of a row's bill, by its terms and its first day, and the rate of that class
unfoldable pub terms_in : Example → Terms
terms_in e = record { fuel = e.fuel; kind = e.kind; certificate = e.certificate }

unfoldable pub bill_class : Example → Class
bill_class e = class_of (terms_in e) e.first

unfoldable pub rated : Example → ℕ
rated e = class_rate e.fuel (bill_class e) e.R e.S

-- P1 to P12, in their order
unfoldable pub examples : List Example
examples =
    example Electricity Flexible None 486 31980 67030 17800
    ∷ example Electricity Flexible None 486 30200 67030 0
    ∷ example Electricity Flexible None 486 30201 67030 10
    ∷ example Electricity Flexible None 486 32160 67030 19600
    ∷ example Electricity Flexible None 486 32161 67030 19610
    ∷ example Electricity Flexible None 486 35000 30201 10
    ∷ example Electricity Flexible (Etii 486) 486 35000 58330 68183
    ∷ example Electricity Flexible (Etii 486) 486 35000 20000 10500
    ∷ example Electricity Flexible (Qhs 511) 791 40000 50000 160000
    ∷ example Electricity Flexible (Qhs 511) 792 40000 50000 217600
    ∷ example Electricity (Fixed 0 791) (Qhs 511) 792 40000 50000 160000
    ∷ example Gas Flexible (Etii 486) 486 20000 30000 30091
    ∷ []

-- a QHS bill at which the baseline rate would be larger, 19610: a misreading that the paper shuts out
unfoldable pub misread : Example
misread = example Electricity Flexible (Qhs 511) 791 35000 35000 10000

abbrev pub TwelveRates : Type 0
TwelveRates = map rated examples ≡ map (λ e. e.ticks) examples

abbrev pub BaselineNotGivenToQhs : Type 0
BaselineNotGivenToQhs = rated misread ≡ misread.ticks
