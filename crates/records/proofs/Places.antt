-- Records that come first in their array: the slots of records and the records of slots, their order, and their tests. Assumes nothing.
use Rattle.std.specs.Prelude.{Option, None, Some}
use mathlib.Core.Path.{◌≡◌, refl, ap, ap₂, ◌∙◌}
use mathlib.Core.Bool.{Bool, true, false≢true}
use mathlib.Core.List.{List, [], ◌∷◌, ◌++◌, map}
use Prim.Native.Nat.{ℕ, zero, suc, ◌+◌, ◌-◌, ◌<◌, ◌≤◌}
use native.Mathlib.Omega.{arith}
use native.Mathlib.Nat.{not-suc-le-zero, le_of_suc-le-suc}
use lib.ListN.{length, get_or, set, replicate, length-append, length-map, length-replicate, length-set}
use Rattle.basics.specs.Tests.{every}
use Rattle.basics.proofs.Tests.{and_left, and_right, and_yes}
use Rattle.records.specs.Places.{held, places, is_in_order}
use Rattle.records.specs.Pairs.{every_pair}

module _ {A : Type 0} where
  -- ---- the slots of records

  pub length-places : (n : ℕ) (xs : List A) → length xs ≤ n → length (places n xs) ≡ n
  unfolding places
  length-places n xs h =
      length-append (map Some xs) (replicate (n - length xs) None)
      ∙ ap₂ (λ (i j : ℕ). i + j) (length-map xs Some) (length-replicate (n - length xs) None) ∙ omega arith

  pub place-held : (n : ℕ) (xs : List A) (d : A) (i : ℕ) → i < length xs → get_or (places n xs) i None ≡ Some (get_or xs i d)
  unfolding places
  place-held n xs d i h = go xs (n - length xs) i h
    where
      go : (ys : List A) (m j : ℕ) → j < length ys → get_or (map Some ys ++ replicate m None) j None ≡ Some (get_or ys j d)
      go [] m j l = absurd (not-suc-le-zero l)
      go (y ∷ ys) m zero l = refl
      go (y ∷ ys) m (suc j) l = go ys m j (le_of_suc-le-suc l)

  -- another record at place i
  pub places-set : (n : ℕ) (xs : List A) (i : ℕ) (x : A) → i < length xs → places n (set xs i x) ≡ set (places n xs) i (Some x)
  unfolding places
  places-set n xs i x h = ap (λ (m : ℕ). map Some (set xs i x) ++ replicate (n - m) None) (length-set xs i x) ∙ go xs (n - length xs) i h
    where
      go : (ys : List A) (m j : ℕ) → j < length ys → map Some (set ys j x) ++ replicate m None ≡ set (map Some ys ++ replicate m None) j (Some x)
      go [] m j l = absurd (not-suc-le-zero l)
      go (y ∷ ys) m zero l = refl
      go (y ∷ ys) m (suc j) l = ap (λ (os : List (Option A)). Some y ∷ os) (go ys m j (le_of_suc-le-suc l))

  pub held-places : (n : ℕ) (xs : List A) → held (places n xs) ≡ xs
  unfolding places
  held-places n xs = go xs (n - length xs)
    where
      go : (ys : List A) (m : ℕ) → held (map Some ys ++ replicate m None) ≡ ys
      go [] zero = refl
      go [] (suc m) = go [] m
      go (y ∷ ys) m = ap (λ (l : List A). y ∷ l) (go ys m)

  pub length-held : (os : List (Option A)) → length (held os) ≤ length os
  length-held [] = omega arith
  length-held (None ∷ os) = omega (arith, length-held os)
  length-held (Some x ∷ os) = omega (arith, length-held os)

module _ {A : Type 0} (before : A → A → Bool) where
  -- ---- slots in order

  free-held : (os : List (Option A)) → every (map (is_in_order before None) os) ≡ true → held os ≡ []
  unfolding is_in_order
  free-held [] e = refl
  free-held (None ∷ os) e = free-held os e
  free-held (Some x ∷ os) e = absurd (false≢true e)

  free_all : (os : List (Option A)) → every (map (is_in_order before None) os) ≡ true → replicate (length os) None ≡ os
  unfolding is_in_order
  free_all [] e = refl
  free_all (None ∷ os) e = ap (λ (l : List (Option A)). None ∷ l) (free_all os e)
  free_all (Some x ∷ os) e = absurd (false≢true e)

  -- slots in order hold their records first
  pub places-held : (os : List (Option A)) → every_pair (is_in_order before) os ≡ true → places (length os) (held os) ≡ os
  unfolding places
  places-held [] e = refl
  places-held (None ∷ os) e =
      let f : every (map (is_in_order before None) os) ≡ true = and_left (every (map (is_in_order before None) os)) _ e in
      let z : suc (length os) - 0 ≡ suc (length os) = omega arith in
      ap (λ (l : List A). map Some l ++ replicate (suc (length os) - length l) None) (free-held os f)
      ∙ ap (λ (n : ℕ). replicate n None) z ∙ ap (λ (l : List (Option A)). None ∷ l) (free_all os f)
  places-held (Some x ∷ os) e =
      let z : suc (length os) - suc (length (held os)) ≡ length os - length (held os) = omega arith in
      ap (λ (l : List (Option A)). Some x ∷ l)
      (ap (λ (n : ℕ). map Some (held os) ++ replicate n None) z ∙ places-held os (and_right (every (map (is_in_order before (Some x)) os)) _ e))

  -- and their records are in order
  pub pairs-held : (os : List (Option A)) → every_pair (is_in_order before) os ≡ true → every_pair before (held os) ≡ true
  unfolding is_in_order
  pairs-held [] e = refl
  pairs-held (None ∷ os) e = pairs-held os (and_right (every (map (is_in_order before None) os)) _ e)
  pairs-held (Some x ∷ os) e =
      and_yes _ _ (go os (and_left (every (map (is_in_order before (Some x)) os)) _ e)) (pairs-held os (and_right (every (map (is_in_order before (Some x)) os)) _ e))
    where
      go : (ps : List (Option A)) → every (map (is_in_order before (Some x)) ps) ≡ true → every (map (before x) (held ps)) ≡ true
      go [] f = refl
      go (None ∷ ps) f = go ps f
      go (Some y ∷ ps) f = and_yes _ _ (and_left (before x y) _ f) (go ps (and_right (before x y) _ f))

  -- records in order make slots in order
  pub pairs-places : (n : ℕ) (xs : List A) → every_pair before xs ≡ true → every_pair (is_in_order before) (places n xs) ≡ true
  unfolding places is_in_order
  pairs-places n xs e = go xs (n - length xs) e
    where
      none_first : (m : ℕ) → every (map (is_in_order before None) (replicate m None)) ≡ true
      none_first zero = refl
      none_first (suc m) = none_first m

      one-first : (x : A) (ys : List A) (m : ℕ) → every (map (before x) ys) ≡ true
          → every (map (is_in_order before (Some x)) (map Some ys ++ replicate m None)) ≡ true
      one-first x [] zero f = refl
      one-first x [] (suc m) f = one-first x [] m f
      one-first x (y ∷ ys) m f = and_yes _ _ (and_left (before x y) _ f) (one-first x ys m (and_right (before x y) _ f))

      go : (ys : List A) (m : ℕ) → every_pair before ys ≡ true → every_pair (is_in_order before) (map Some ys ++ replicate m None) ≡ true
      go [] zero f = refl
      go [] (suc m) f = and_yes _ _ (none_first m) (go [] m refl)
      go (y ∷ ys) m f = and_yes _ _ (one-first y ys m (and_left (every (map (before y) ys)) _ f)) (go ys m (and_right (every (map (before y) ys)) _ f))
