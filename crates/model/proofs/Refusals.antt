-- What an accepted call, and one that is turned down, says of its tests, looked up by the paper's number. Assumes nothing.
use mathlib.Core.Path.{◌≡◌, refl, sym, ◌∙◌}
use mathlib.Core.Bool.{Bool, true, false, cond, ◌&&◌, ◌||◌, false≢true}
use mathlib.Core.List.{List, [], ◌∷◌, ◌++◌}
use mathlib.Core.Logic.{◌⊎◌, inl, inr, ⊎_elim}
use Prim.Native.Nat.{ℕ, suc, ◌≤◌}
use native.Mathlib.Omega.{arith}
use lib.Dec.{T, leb, eqb}
use Rattle.basics.proofs.Tests.{T-yes, yes-T, and_left, and_right, le_yes, eq_no}
use Rattle.model.specs.Calls.{Test, ◌if◌, first_of}

-- whether the test of that number fits
abbrev pub fits_at : List Test → ℕ → Bool
fits_at [] n = false
fits_at (x ∷ ts) n = cond (eqb x.number n) x.fits (fits_at ts n)

abbrev pub numbered : List Test → Bool
numbered [] = true
numbered (x ∷ ts) = leb 1 x.number && numbered ts

-- no test of the list fits: the one of that number does not
pub clear : (ts : List Test) → T (numbered ts) → first_of ts ≡ 0 → (n : ℕ) → fits_at ts n ≡ false
clear [] h e n = refl
clear (x ∷ ts) h e n =
    go x.fits x.number (le_yes 1 x.number (and_left (leb 1 x.number) (numbered ts) (yes-T _ h))) (λ f. clear ts (T-yes (and_right (leb 1 x.number) (numbered ts) (yes-T _ h))) f n) e (eqb x.number n)
  where
    go : (b : Bool) (m : ℕ) → 1 ≤ m → (first_of ts ≡ 0 → fits_at ts n ≡ false) → cond b m (first_of ts) ≡ 0 → (c : Bool) → cond c b (fits_at ts n) ≡ false
    go true m l rest f c = let z : ⊥ = omega arith in absurd z
    go false m l rest f true = refl
    go false m l rest f false = rest f

-- whether a test of that number fits, which one does where it turns the call down
abbrev pub fits_any : List Test → ℕ → Bool
fits_any [] n = false
fits_any (x ∷ ts) n = cond (eqb x.number n) (x.fits || fits_any ts n) (fits_any ts n)

pub fits-first : (ts : List Test) (n : ℕ) → first_of ts ≡ suc n → fits_any ts (suc n) ≡ true
fits-first [] n e = let z : ⊥ = omega arith in absurd z
fits-first (x ∷ ts) n e = go x.fits (eqb x.number (suc n)) refl (fits-first ts n) e
  where
    go : (f same : Bool) → eqb x.number (suc n) ≡ same → (first_of ts ≡ suc n → fits_any ts (suc n) ≡ true) → cond f x.number (first_of ts) ≡ suc n
        → cond same (f || fits_any ts (suc n)) (fits_any ts (suc n)) ≡ true
    go true true s rest h = refl
    go true false s rest h = absurd (eq_no x.number (suc n) s h)
    go false true s rest h = rest h
    go false false s rest h = rest h

-- two lists, one after the other: the first turns the call down, or the second decides
pub first-or-second : (xs ys : List Test) (n : ℕ) → first_of (xs ++ ys) ≡ suc n → (first_of xs ≡ suc n) ⊎ ((first_of xs ≡ 0) × (first_of ys ≡ suc n))
first-or-second [] ys n e = inr (refl, e)
first-or-second (x ∷ xs) ys n e = go x.fits (first-or-second xs ys n) e
  where
    go : (f : Bool) → (first_of (xs ++ ys) ≡ suc n → (first_of xs ≡ suc n) ⊎ ((first_of xs ≡ 0) × (first_of ys ≡ suc n))) → cond f x.number (first_of (xs ++ ys)) ≡ suc n
        → (cond f x.number (first_of xs) ≡ suc n) ⊎ ((cond f x.number (first_of xs) ≡ 0) × (first_of ys ≡ suc n))
    go true rest h = inl h
    go false rest h = rest h

-- a number that stands in one place turns the call down: no test before it fits, and its own does
pub only-place : (earlier : List Test) (n : ℕ) (b : Bool) (later : List Test) → fits_any earlier (suc n) ≡ false → fits_any later (suc n) ≡ false
    → first_of (earlier ++ ((suc n if b) ∷ later)) ≡ suc n → (first_of earlier ≡ 0) × (b ≡ true)
only-place earlier n b later before after e =
    ⊎_elim (λ f. absurd (false≢true (sym before ∙ fits-first earlier n f))) (λ f. (f.0, here b f.1)) (first-or-second earlier ((suc n if b) ∷ later) n e)
  where
    here : (b : Bool) → first_of ((suc n if b) ∷ later) ≡ suc n → b ≡ true
    here true h = refl
    here false h = absurd (false≢true (sym after ∙ fits-first later n h))

pub refused-first : (xs ys : List Test) (n : ℕ) → n ≡ first_of xs → (n ≡ 0 → ⊥) → n ≡ first_of (xs ++ ys)
refused-first [] ys n e some = absurd (some e)
refused-first (x ∷ xs) ys n e some = go x.fits (λ h. refused-first xs ys n h some) e
  where
    go : (f : Bool) → (n ≡ first_of xs → n ≡ first_of (xs ++ ys)) → n ≡ cond f x.number (first_of xs) → n ≡ cond f x.number (first_of (xs ++ ys))
    go true rest h = h
    go false rest h = rest h

pub refused-later : (xs ys : List Test) (m : ℕ) → T (numbered xs) → 0 ≡ first_of xs → m ≡ first_of ys → m ≡ first_of (xs ++ ys)
refused-later [] ys m ok none e = e
refused-later (x ∷ xs) ys m ok none e =
    let h = yes-T _ ok in
    go x.fits (le_yes 1 x.number (and_left (leb 1 x.number) (numbered xs) h)) (λ f. refused-later xs ys m (T-yes (and_right (leb 1 x.number) (numbered xs) h)) f e) none
  where
    go : (f : Bool) → 1 ≤ x.number → (0 ≡ first_of xs → m ≡ first_of (xs ++ ys)) → 0 ≡ cond f x.number (first_of xs) → m ≡ cond f x.number (first_of (xs ++ ys))
    go true l rest h = let z : ⊥ = omega arith in absurd z
    go false l rest h = rest h
