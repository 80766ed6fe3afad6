-- Slots by their number, as a list and as a function: each gives the other back. Assumes nothing.
use Rattle.std.specs.Prelude.{Option, None}
use mathlib.Core.Path.{◌≡◌, refl, ap, ap₂}
use mathlib.Core.List.{List, [], ◌∷◌}
use mathlib.Core.Logic.{◌≢◌}
use Prim.Native.Nat.{ℕ, zero, suc, ◌<◌, ◌≤◌}
use native.Mathlib.Omega.{arith}
use lib.ListN.{length, set, get_or-eq_default}
use Rattle.records.specs.Numbered.{listed, numbered}

module _ {A : Type 0} where
  pub length-listed : (n : ℕ) (f : ℕ → A) → length (listed n f) ≡ n
  length-listed zero f = refl
  length-listed (suc n) f = ap suc (length-listed n (λ i. f (suc i)))

  pub listed_same : (n : ℕ) (f g : ℕ → A) → ((i : ℕ) → i < n → f i ≡ g i) → listed n f ≡ listed n g
  listed_same zero f g h = refl
  listed_same (suc n) f g h =
      ap₂ (λ (x : A) (xs : List A). x ∷ xs) (h 0 (omega arith)) (listed_same n (λ i. f (suc i)) (λ i. g (suc i)) (λ i l. h (suc i) (omega arith)))

  -- another element at number i
  pub listed-set : (n : ℕ) (f g : ℕ → A) (i : ℕ) → ((j : ℕ) → j ≢ i → g j ≡ f j) → listed n g ≡ set (listed n f) i (g i)
  listed-set zero f g i h = refl
  listed-set (suc n) f g zero h =
      ap (λ (xs : List A). g 0 ∷ xs) (listed_same n (λ j. g (suc j)) (λ j. f (suc j)) (λ j l. h (suc j) (λ e. let z : ⊥ = omega arith in z)))
  listed-set (suc n) f g (suc i) h =
      ap₂ (λ (x : A) (xs : List A). x ∷ xs) (h 0 (λ e. let z : ⊥ = omega arith in z))
      (listed-set n (λ j. f (suc j)) (λ j. g (suc j)) i (λ j m. h (suc j) (λ e. m (let z : j ≡ i = omega arith in z))))

  pub numbered-listed : (n : ℕ) (f : ℕ → Option A) → ((i : ℕ) → n ≤ i → f i ≡ None) → (i : ℕ) → numbered (listed n f) i ≡ f i
  unfolding numbered
  numbered-listed zero f h i = let l : 0 ≤ i = omega arith in rw (h i l)
  numbered-listed (suc n) f h zero = refl
  numbered-listed (suc n) f h (suc i) = numbered-listed n (λ j. f (suc j)) (λ j l. h (suc j) (omega arith)) i

  pub listed-numbered : (n : ℕ) (os : List (Option A)) → length os ≡ n → listed n (numbered os) ≡ os
  unfolding numbered
  listed-numbered zero [] e = refl
  listed-numbered zero (o ∷ os) e = let z : ⊥ = omega arith in absurd z
  listed-numbered (suc n) [] e = let z : ⊥ = omega arith in absurd z
  listed-numbered (suc n) (o ∷ os) e = ap (λ (xs : List (Option A)). o ∷ xs) (listed-numbered n os (omega arith))

  pub numbered-beyond : (os : List (Option A)) (i : ℕ) → length os ≤ i → numbered os i ≡ None
  unfolding numbered
  numbered-beyond os i h = get_or-eq_default os None h
