-- A test that each element of a list passes, and its element at each place. Assumes nothing.
use mathlib.Core.Path.{◌≡◌, refl, sym, ◌∙◌}
use mathlib.Core.Bool.{Bool, true, false, false≢true}
use mathlib.Core.List.{List, [], ◌∷◌, map}
use Prim.Native.Nat.{ℕ, zero, suc, ◌<◌}
use native.Mathlib.Omega.{arith}
use native.Mathlib.Nat.{not-suc-le-zero, le_of_suc-le-suc}
use lib.ListN.{length, get_or}
use Rattle.basics.specs.Tests.{every}
use Rattle.basics.proofs.Tests.{either, and_left, and_right, and_yes}

module _ {A : Type 0} (p : A → Bool) where
  module _ (d : A) where
    -- each element passes, so that number i does
    pub every-map-at : (xs : List A) → every (map p xs) ≡ true → (i : ℕ) → i < length xs → p (get_or xs i d) ≡ true
    every-map-at [] e i h = absurd (not-suc-le-zero h)
    every-map-at (x ∷ xs) e zero h = and_left (p x) _ e
    every-map-at (x ∷ xs) e (suc i) h = every-map-at xs (and_right (p x) _ e) i (le_of_suc-le-suc h)

    -- each number passes
    pub at-every-map : (xs : List A) → ((i : ℕ) → i < length xs → p (get_or xs i d) ≡ true) → every (map p xs) ≡ true
    at-every-map [] f = refl
    at-every-map (x ∷ xs) f = and_yes _ _ (f 0 (omega arith)) (at-every-map xs (λ i h. f (suc i) (omega arith)))

    -- number i fails
    pub fails-every-map : (xs : List A) (i : ℕ) → i < length xs → p (get_or xs i d) ≡ false → every (map p xs) ≡ false
    fails-every-map xs i h e = either (every (map p xs)) (λ t. absurd (false≢true (sym e ∙ every-map-at xs t i h))) (λ t. t)
