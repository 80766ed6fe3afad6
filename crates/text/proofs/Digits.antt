-- The digits of a number: one by one, how many there are, and that they are what the library prints. Assumes nothing.
use mathlib.Core.Path.{◌≡◌, refl, sym, ap, ◌∙◌}
use mathlib.Core.Bool.{Bool, true, false}
use mathlib.Core.List.{List, [], ◌∷◌, ◌++◌}
use Prim.Native.Nat.{ℕ, zero, suc, ◌+◌, ◌/◌, ◌%◌, ◌^◌, ◌≤◌, ◌<◌}
use native.Mathlib.Nat.{pow-suc}
use native.Mathlib.Omega.{arith}
use borrow.Author.Tests.{lt-ltb, le-ltb, ltb-true, ltb-false}
use lib.Dec.{ltb}
use lib.IntN.{ℤ, pos, negsuc}
use lib.ListN.{length, length-append}
use mir.Syntax.{w64}
use mir.Val.{SFits}
use Rattle.std.specs.Fmt.{decimal, signed_decimal}
use Rattle.std.proofs.lemmas.Fmt.{decimal_by_steps}
use Rattle.text.specs.Numbers.{digits_by, digits, integer_text}

one-digit-by : (f n : ℕ) → n < 10 → digits_by f n ≡ (48 + n) ∷ []
unfolding digits_by
one-digit-by zero n h = refl
one-digit-by (suc f) n h = simp (lt-ltb n 10 h)

-- any count of divisions that is large enough gives the same digits
enough-step : (f g n : ℕ) (t : Bool) → ltb n 10 ≡ t → (10 ≤ n → digits_by f (n / 10) ≡ digits_by g (n / 10)) → digits_by (suc f) n ≡ digits_by (suc g) n
unfolding digits_by
enough-step f g n true e h = simp e
enough-step f g n false e h = simp e (ap (λ (x : List ℕ). x ++ ((48 + n % 10) ∷ [])) (h (ltb-false n 10 e)))

enough : (f g n : ℕ) → n ≤ f → n ≤ g → digits_by f n ≡ digits_by g n
enough zero g n h k = one-digit-by zero n (omega arith) ∙ sym (one-digit-by g n (omega arith))
enough (suc f) zero n h k = one-digit-by (suc f) n (omega arith) ∙ sym (one-digit-by zero n (omega arith))
enough (suc f) (suc g) n h k = enough-step f g n (ltb n 10) refl (λ l. enough f g (n / 10) (omega arith) (omega arith))

one-digit : (n : ℕ) → n < 10 → digits n ≡ (48 + n) ∷ []
unfolding digits
one-digit n h = one-digit-by n n h

last-digit : (n : ℕ) → 10 ≤ n → digits n ≡ digits (n / 10) ++ ((48 + n % 10) ∷ [])
unfolding digits digits_by
last-digit zero h = absurd (omega arith)
last-digit (suc n) h = simp (le-ltb (suc n) 10 h) (ap (λ (x : List ℕ). x ++ ((48 + suc n % 10) ∷ [])) (enough n (suc n / 10) (suc n / 10) (omega arith) (omega arith)))

-- the digits are what the library prints
pub digits-decimal : (n : ℕ) → n < 2 ^ 64 → digits n ≡ decimal n
digits-decimal = decimal_by_steps (λ n ds. digits n ≡ ds) one-digit (λ n ds h e. last-digit n h ∙ ap (λ (x : List ℕ). x ++ ((48 + n % 10) ∷ [])) e)

pub integer_text-signed_decimal : (z : ℤ) → SFits w64 z → integer_text z ≡ signed_decimal z
integer_text-signed_decimal (pos n) h = digits-decimal n (omega (arith, h.sfits))
integer_text-signed_decimal (negsuc n) h = ap (λ (x : List ℕ). 45 ∷ x) (digits-decimal (suc n) (omega (arith, h.sfits)))

few-by : (k n : ℕ) (t : Bool) → ltb n 10 ≡ t → (10 ≤ n → length (digits (n / 10)) ≤ k) → length (digits n) ≤ suc k
few-by k n true e h = rw (one-digit n (ltb-true n 10 e)) (omega arith)
few-by k n false e h =
    let r = h (ltb-false n 10 e) in
    rw (last-digit n (ltb-false n 10 e), length-append) (omega arith)

-- a number below 10 ^ (k + 1) has at most k + 1 digits
pub few-digits : (k n : ℕ) → n < 10 ^ suc k → length (digits n) ≤ suc k
few-digits zero n h = few-by zero n (ltb n 10) refl (λ l. absurd (omega (arith, pow-suc 10 zero)))
few-digits (suc k) n h = few-by (suc k) n (ltb n 10) refl (λ l. few-digits k (n / 10) (omega (arith, pow-suc 10 (suc k))))
