-- A list whose first n elements are mapped, as a loop that rewrites each place leaves it at place n. Assumes nothing.
use mathlib.Core.Path.{◌≡◌, refl, sym, ap, ap₂, ◌∙◌}
use mathlib.Core.List.{List, [], ◌∷◌, map}
use Prim.Native.Nat.{ℕ, zero, suc, ◌+◌, ◌<◌}
use native.Mathlib.Nat.{not-suc-le-zero, le_of_suc-le-suc}
use native.Mathlib.Numerals.{add-one}
use lib.ListN.{length, drop, get_or, set}
use Rattle.basics.specs.Lists.{All}

module _ {A : Type 0} (f : A → A) where
  abbrev pub first_mapped : ℕ → List A → List A
  first_mapped zero xs = xs
  first_mapped (suc n) [] = []
  first_mapped (suc n) (x ∷ xs) = f x ∷ first_mapped n xs

  -- all are mapped where the others stay as they are
  pub first_rest : (n : ℕ) (xs : List A) → All (λ x. f x ≡ x) (drop n xs) → first_mapped n xs ≡ map f xs
  first_rest zero [] a = refl
  first_rest zero (x ∷ xs) a = sym (ap₂ ◌∷◌ a.0 (sym (first_rest zero xs a.1)))
  first_rest (suc n) [] a = refl
  first_rest (suc n) (x ∷ xs) a = ap (λ (ys : List A). f x ∷ ys) (first_rest n xs a)

  pub length-first : (n : ℕ) (xs : List A) → length (first_mapped n xs) ≡ length xs
  length-first zero xs = refl
  length-first (suc n) [] = refl
  length-first (suc n) (x ∷ xs) = ap suc (length-first n xs)

  -- the element after them is mapped next
  pub first_next : (n : ℕ) (xs : List A) (d : A) → n < length xs → set (first_mapped n xs) n (f (get_or xs n d)) ≡ first_mapped (n + 1) xs
  first_next n xs d h = go n xs h ∙ ap (λ (m : ℕ). first_mapped m xs) (sym (add-one n))
    where
      go : (n : ℕ) (xs : List A) → n < length xs → set (first_mapped n xs) n (f (get_or xs n d)) ≡ first_mapped (suc n) xs
      go n [] h = absurd (not-suc-le-zero h)
      go zero (x ∷ xs) h = refl
      go (suc n) (x ∷ xs) h = ap (λ (ys : List A). f x ∷ ys) (go n xs (le_of_suc-le-suc h))
