-- Elements by their number, as a list and as a function. Assumes nothing.
use Rattle.std.specs.Prelude.{List, [], ◌∷◌, ℕ, zero, suc, get_or, Option, None}

-- the elements of numbers 0 to n − 1
abbrev pub listed : {A : Type 0} → ℕ → (ℕ → A) → List A
listed zero f = []
listed (suc n) f = f 0 ∷ listed n (λ i. f (suc i))

-- the slot of number i, free past the end
unfoldable pub numbered : {A : Type 0} → List (Option A) → ℕ → Option A
numbered os i = get_or os i None
