-- A rule of a table from each of its places to the next, from one test that antt computes over all entries.
use Prim.Native.Nat.{ℕ, zero, suc, ◌<◌}
use mathlib.Core.Path.{◌≡◌}
use mathlib.Core.Bool.{Bool, true, ◌&&◌, and-eq-true_iff}
use mathlib.Core.List.{List, [], ◌∷◌}
use native.Mathlib.Nat.{le_of_suc-le-suc, not-suc-le-zero}
use lib.ListN.{length, get_or}

module _ {A : Type 0} where
  -- whether each entry passes the test with the entry after it
  abbrev pub adjacent : (A → A → Bool) → List A → Bool
  adjacent test [] = true
  adjacent test (x ∷ []) = true
  adjacent test (x ∷ (y ∷ ys)) = test x y && adjacent test (y ∷ ys)

module _ {A : Type 0} (none : A) where
  -- such a test passes from each place to the next
  pub adjacent-at :
      (test : A → A → Bool) (xs : List A)
      → adjacent test xs ≡ true
      → (i : ℕ) → suc i < length xs → test (get_or xs i none) (get_or xs (suc i) none) ≡ true
  adjacent-at test [] passed i inside = absurd (not-suc-le-zero inside)
  adjacent-at test (x ∷ []) passed i inside = absurd (not-suc-le-zero (le_of_suc-le-suc inside))
  adjacent-at test (x ∷ (y ∷ ys)) passed zero inside = ((and-eq-true_iff (test x y) (adjacent test (y ∷ ys))).0 passed).0
  adjacent-at test (x ∷ (y ∷ ys)) passed (suc i) inside =
      adjacent-at test (y ∷ ys) ((and-eq-true_iff (test x y) (adjacent test (y ∷ ys))).0 passed).1 i (le_of_suc-le-suc inside)
