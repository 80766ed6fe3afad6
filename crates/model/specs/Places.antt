-- Rows by their place: the first that passes a test, and the first that reaches a day. Assumes nothing.
use Rattle.std.specs.Prelude.{Bool, false, cond, ◌&&◌, ◌||◌, List, [], ◌∷◌, ℕ, suc, leb, ltb, eqb}
use Rattle.amounts.specs.declared.Bill.{Bill}
use Rattle.model.specs.declared.Row.{Row}

-- how many rows stand before the first that passes the test, all of them where none does
abbrev pub place_of : (Bill → Bool) → List Row → ℕ
place_of p [] = 0
place_of p (x ∷ xs) = cond (p x.bill) 0 (suc (place_of p xs))

-- there is a first row, and it passes the test
abbrev pub first_passes : (Bill → Bool) → List Row → Bool
first_passes p [] = false
first_passes p (x ∷ xs) = p x.bill

-- a bill of a later contract, or one of that contract that ends on the day or after it
unfoldable pub reaches : (contract day : ℕ) → Bill → Bool
reaches c day b = ltb c b.contract || (eqb c b.contract && leb day b.last)
