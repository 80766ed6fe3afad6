-- What holds of each element of a list, and sums over lists. Assumes nothing.
use mathlib.Core.Path.{◌≡◌, refl, ap}
use mathlib.Core.Bool.{Bool, true, false, cond}
use mathlib.Core.List.{List, [], ◌∷◌, map}
use Prim.Native.Nat.{ℕ, zero, suc, ◌+◌, ◌*◌, ◌≤◌, ◌<◌, zero-le}
use native.Mathlib.Nat.{not-suc-le-zero, le_of_suc-le-suc}
use lib.ListN.{length, get_or}
use native.Mathlib.Omega.{arith}
use Rattle.basics.specs.Lists.{All, total, count}

split_step : (b : Bool) (w m n t : ℕ) → m + n ≡ t → (cond b w 0 + m) + (cond b 0 w + n) ≡ w + t
split_step true w m n t e = omega arith
split_step false w m n t e = omega arith

const_step : (b : Bool) (k w c m t : ℕ) → t ≡ c * k + m → cond b k w + t ≡ (cond b 1 0 + c) * k + (cond b 0 w + m)
const_step true k w c m t e = omega arith
const_step false k w c m t e = omega arith

none-step : (b : Bool) (w v c m n : ℕ) → cond b 1 0 + c ≡ 0 → (c ≡ 0 → m ≡ n) → cond b w v + m ≡ v + n
none-step true w v c m n e f = let z : ⊥ = omega arith in absurd z
none-step false w v c m n e f = let h : m ≡ n = f (omega arith) in omega arith

module _ {A : Type 0} where
  pub all-at : (P : A → Type 0) (xs : List A) (d : A) → All P xs → (n : ℕ) → n < length xs → P (get_or xs n d)
  all-at P [] d a n h = absurd (not-suc-le-zero h)
  all-at P (x ∷ xs) d a zero h = a.0
  all-at P (x ∷ xs) d a (suc n) h = all-at P xs d a.1 n (le_of_suc-le-suc h)

  pub all_of : (P : A → Type 0) → ((x : A) → P x) → (xs : List A) → All P xs
  all_of P h [] = tt
  all_of P h (x ∷ xs) = (h x, all_of P h xs)

  pub all_of_map : {B : Type 0} (Q : B → Type 0) (f : A → B) → ((x : A) → Q (f x)) → (xs : List A) → All Q (map f xs)
  all_of_map Q f h [] = tt
  all_of_map Q f h (x ∷ xs) = (h x, all_of_map Q f h xs)

  pub all_map : (P Q : A → Type 0) → ((x : A) → P x → Q x) → (xs : List A) → All P xs → All Q xs
  all_map P Q f [] a = tt
  all_map P Q f (x ∷ xs) a = (f x a.0, all_map P Q f xs a.1)

  pub total-all : (f g : A → ℕ) (xs : List A) → All (λ x. f x ≡ g x) xs → total f xs ≡ total g xs
  total-all f g [] a = refl
  total-all f g (x ∷ xs) a = let h : f x ≡ g x = a.0 in let t : total f xs ≡ total g xs = total-all f g xs a.1 in omega arith

  pub total-cong : (f g : A → ℕ) → ((x : A) → f x ≡ g x) → (xs : List A) → total f xs ≡ total g xs
  total-cong f g e xs = total-all f g xs (all_of (λ x. f x ≡ g x) e xs)

  pub total_mono : (f g : A → ℕ) (xs : List A) → All (λ x. f x ≤ g x) xs → total f xs ≤ total g xs
  total_mono f g [] a = zero-le
  total_mono f g (x ∷ xs) a = let h : f x ≤ g x = a.0 in let t : total f xs ≤ total g xs = total_mono f g xs a.1 in omega arith

  pub total-le : (f g : A → ℕ) → ((x : A) → f x ≤ g x) → (xs : List A) → total f xs ≤ total g xs
  total-le f g h xs = total_mono f g xs (all_of (λ x. f x ≤ g x) h xs)

  pub total-times : (w : A → ℕ) (n : ℕ) (xs : List A) → total (λ x. w x * n) xs ≡ total w xs * n
  total-times w n [] = omega arith
  total-times w n (x ∷ xs) = omega (arith, total-times w n xs)

  -- what passes the test and what does not
  pub total-split : (p : A → Bool) (w : A → ℕ) (xs : List A) → total (λ x. cond (p x) (w x) 0) xs + total (λ x. cond (p x) 0 (w x)) xs ≡ total w xs
  total-split p w [] = refl
  total-split p w (x ∷ xs) = split_step (p x) (w x) (total (λ y. cond (p y) (w y) 0) xs) (total (λ y. cond (p y) 0 (w y)) xs) (total w xs) (total-split p w xs)

  -- k in place of what passes the test
  pub total-const : (p : A → Bool) (k : ℕ) (w : A → ℕ) (xs : List A) → total (λ x. cond (p x) k (w x)) xs ≡ count p xs * k + total (λ x. cond (p x) 0 (w x)) xs
  total-const p k w [] = omega arith
  total-const p k w (x ∷ xs) = const_step (p x) k (w x) (count p xs) (total (λ y. cond (p y) 0 (w y)) xs) (total (λ y. cond (p y) k (w y)) xs) (total-const p k w xs)

  -- nothing passes the test
  pub total-none : (p : A → Bool) (w v : A → ℕ) (xs : List A) → count p xs ≡ 0 → total (λ x. cond (p x) (w x) (v x)) xs ≡ total v xs
  total-none p w v [] e = refl
  total-none p w v (x ∷ xs) e = none-step (p x) (w x) (v x) (count p xs) (total (λ y. cond (p y) (w y) (v y)) xs) (total v xs) e (total-none p w v xs)

pub total-zero : {A : Type 0} (xs : List A) → total (λ x. 0) xs ≡ 0
total-zero [] = refl
total-zero (x ∷ xs) = let e : total (λ x. 0) xs ≡ 0 = total-zero xs in omega arith

pub total-map : {A B : Type 0} (w : B → ℕ) (f : A → B) (xs : List A) → total w (map f xs) ≡ total (λ x. w (f x)) xs
total-map w f [] = refl
total-map w f (x ∷ xs) = ap (λ (n : ℕ). w (f x) + n) (total-map w f xs)

module _ {A : Type 0} where
  pub none-all : (p : A → Bool) (xs : List A) → count p xs ≡ 0 → All (λ x. p x ≡ false) xs
  none-all p [] e = tt
  none-all p (x ∷ xs) e = (head (p x) e, none-all p xs (tail (p x) e))
    where
      head : (b : Bool) → cond b 1 0 + count p xs ≡ 0 → b ≡ false
      head true h = let z : ⊥ = omega arith in absurd z
      head false h = refl

      tail : (b : Bool) → cond b 1 0 + count p xs ≡ 0 → count p xs ≡ 0
      tail true h = omega arith
      tail false h = omega arith

  pub all_both : (P Q : A → Type 0) (xs : List A) → All P xs → All Q xs → All (λ x. P x × Q x) xs
  all_both P Q [] a b = tt
  all_both P Q (x ∷ xs) a b = ((a.0, b.0), all_both P Q xs a.1 b.1)

  pub all-over : {B : Type 0} (P : A → Type 0) (Q : B → Type 0) (f : A → B) → ((x : A) → P x → Q (f x)) → (xs : List A) → All P xs → All Q (map f xs)
  all-over P Q f g [] a = tt
  all-over P Q f g (x ∷ xs) a = (g x a.0, all-over P Q f g xs a.1)

  pub total-most : (w : A → ℕ) (n : ℕ) (xs : List A) → All (λ x. w x ≤ n) xs → total w xs ≤ length xs * n
  total-most w n [] a = zero-le
  total-most w n (x ∷ xs) a = let h : w x ≤ n = a.0 in let t : total w xs ≤ length xs * n = total-most w n xs a.1 in omega arith

  pub count-true : (xs : List A) → count (λ x. true) xs ≡ length xs
  count-true [] = refl
  count-true (x ∷ xs) = let e : count (λ x. true) xs ≡ length xs = count-true xs in omega arith
