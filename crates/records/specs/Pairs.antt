-- A test of the pairs of a list, and of its neighbours, the earlier element first. Assumes nothing.
use Rattle.std.specs.Prelude.{Bool, true, ◌&&◌, List, [], ◌∷◌, map}
use Rattle.basics.specs.Tests.{every}

module _ {A : Type 0} (p : A → A → Bool) where
  -- each pair passes
  abbrev pub every_pair : List A → Bool
  every_pair [] = true
  every_pair (x ∷ xs) = every (map (p x) xs) && every_pair xs

  -- each element and the next pass, x standing before them
  abbrev pub linked : A → List A → Bool
  linked x [] = true
  linked x (y ∷ ys) = p x y && linked y ys

  abbrev pub every_neighbour : List A → Bool
  every_neighbour [] = true
  every_neighbour (x ∷ xs) = linked x xs
