-- Records that come first in their array: the slots from some place on are free. Assumes nothing.
use Rattle.std.specs.Prelude.{Bool, true, false, List, [], ◌∷◌, ◌++◌, map, ℕ, suc, ◌-◌, length, take, drop, replicate, Option, None, Some}

module _ {A : Type 0} where
  -- the records that the slots hold
  abbrev pub held : List (Option A) → List A
  held [] = []
  held (None ∷ os) = held os
  held (Some x ∷ os) = x ∷ held os

  -- n slots, of which the first hold the records xs
  unfoldable pub places : ℕ → List A → List (Option A)
  places n xs = map Some xs ++ replicate (n - length xs) None

  -- of two slots, the earlier first: no record comes after a free slot, and two records are in the order
  unfoldable pub is_in_order : (A → A → Bool) → Option A → Option A → Bool
  is_in_order before x None = true
  is_in_order before None (Some y) = false
  is_in_order before (Some x) (Some y) = before x y

  -- x inserted before the element at place i, and the element at place i removed
  abbrev pub inserted : ℕ → A → List A → List A
  inserted i x xs = take i xs ++ (x ∷ drop i xs)

  abbrev pub removed : ℕ → List A → List A
  removed i xs = take i xs ++ drop (suc i) xs
