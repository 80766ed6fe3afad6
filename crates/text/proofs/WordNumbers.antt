-- A word as a number: what it must hold, and that the library reads it. Assumes nothing.
use Rattle.std.proofs.Common.{◌≡◌, ◌≢◌, ℕ, ◌+◌, ◌-◌, ◌*◌, ◌<◌, ◌≤◌, ◌^◌, Bool, true, false, cond, ◌&&◌, eqb, ltb, List, [], ◌∷◌, length, get_or, Option, Some, None, Result, Ok, Err, refl, sym, ap, ◌∙◌, arith, rules, le-ltb, ltb-false, eq-eqb, ne_eqb}
use Rattle.std.specs.Char.{is_ascii_digit}
use Rattle.std.specs.Str.{all_ascii_digits, IsAscii}
use Rattle.std.specs.Str.Parse.{ParsesUnsigned}
use Rattle.std.specs.Result.{OkIff, result_ok}
use Rattle.std.specs.Fmt.{decimal}
use Rattle.std.proofs.lemmas.Bool.{false≢true, eqb-false}
use Rattle.std.proofs.lemmas.Str.Parse.{IsNumeralModel, numerals_by_fold, tells_all_ascii_digits, parse_plain, not_in_digits}
use Rattle.std.proofs.lemmas.Fmt.{decimal-digits_value, length-decimal-le, IsAscii-from_digits}
use Rattle.text.specs.Numbers.{decimal_value, has_leading_zero, as_number, number_of}

-- the value of digits, after digits of value v
abbrev pub value_after : ℕ → List ℕ → ℕ
value_after v [] = v
value_after v (b ∷ bs) = value_after (v * 10 + (b - 48)) bs

pub values : IsNumeralModel (λ ds. all_ascii_digits ds ≡ true) (value_after 0)
values = numerals_by_fold _ tells_all_ascii_digits value_after (search rules)

decimal_value-all : (v : ℕ) (ds : List ℕ) → decimal_value v ds ≡ cond (all_ascii_digits ds) (Some (value_after v ds)) None
unfolding decimal_value
decimal_value-all v [] = refl
decimal_value-all v (b ∷ bs) = go (is_ascii_digit b) (all_ascii_digits bs) _ (decimal_value-all (v * 10 + (b - 48)) bs)
  where
    go : (t u : Bool) {x : Option ℕ} (y : Option ℕ) → x ≡ cond u y None → cond t x None ≡ cond (t && u) y None
    go true u y e = e
    go false u y e = refl

-- ---- what a word that is a number holds
pub record IsNumber (w : List ℕ) (n : ℕ) : Type 0 where
  pub some : 0 < length w
  pub few : length w ≤ 10
  pub no_zero : has_leading_zero w ≡ false
  pub digits : all_ascii_digits w ≡ true
  pub value : n ≡ value_after 0 w
  pub small : n ≤ 4294967295

pub number-word : (w : List ℕ) (n : ℕ) → number_of w ≡ Some n → IsNumber w n
unfolding number_of
number-word w n h = by_length (eqb (length w) 0) refl (ltb 10 (length w)) refl (has_leading_zero w) refl (rw (decimal_value-all 0 w) at h)
  where
    by_size : (t : Bool) → ltb 4294967295 (value_after 0 w) ≡ t → cond t None (Some (value_after 0 w)) ≡ Some n → (n ≡ value_after 0 w) × (n ≤ 4294967295)
    by_size true e q = cc
    by_size false e q = let k : value_after 0 w ≡ n = cc in (sym k, omega (arith, ltb-false 4294967295 (value_after 0 w) e))

    by_digits : (t : Bool) → all_ascii_digits w ≡ t → as_number (cond t (Some (value_after 0 w)) None) ≡ Some n → (all_ascii_digits w ≡ true) × (n ≡ value_after 0 w) × (n ≤ 4294967295)
    by_digits true e q = let k = by_size (ltb 4294967295 (value_after 0 w)) refl q in (e, k.0, k.1)
    by_digits false e q = cc

    by_length : (t : Bool) → eqb (length w) 0 ≡ t → (u : Bool) → ltb 10 (length w) ≡ u → (v : Bool) → has_leading_zero w ≡ v
        → cond t None (cond u None (cond v None (as_number (cond (all_ascii_digits w) (Some (value_after 0 w)) None)))) ≡ Some n → IsNumber w n
    by_length true e u m v z q = cc
    by_length false e true m v z q = cc
    by_length false e false m true z q = cc
    by_length false e false m false z q =
        let k = by_digits (all_ascii_digits w) refl q in
        let l = eqb-false (length w) 0 e in
        let few = ltb-false 10 (length w) m in
        record { some = omega arith; few = omega arith; no_zero = z; digits = k.0; value = k.1; small = k.2 }

pub number-IsAscii : {w : List ℕ} {n : ℕ} → IsNumber w n → IsAscii w
number-IsAscii {w} k = IsAscii-from_digits w (values.to w k.digits)

-- a word that is no number
none_if : (w : List ℕ) → ((n : ℕ) → IsNumber w n → ⊥) → None ≡ number_of w
none_if w h = go (number_of w) (number-word w)
  where
    go : (x : Option ℕ) → ((n : ℕ) → x ≡ Some n → IsNumber w n) → None ≡ x
    go None k = refl
    go (Some n) k = absurd (h n (k n refl))

pub zero-none : (w : List ℕ) → has_leading_zero w ≡ true → None ≡ number_of w
zero-none w z = none_if w (λ n k. false≢true (sym k.no_zero ∙ z))

pub sign-none : (w : List ℕ) → get_or w 0 0 ≡ 43 → None ≡ number_of w
sign-none w e = none_if w (λ n k. not_in_digits values w 43 k.digits (λ r. omega (arith, r.0)) 0 k.some e)

-- ---- what the library reads of a word without a sign or leading zeros
module _ (w : List ℕ) (z : has_leading_zero w ≡ false) where
  -- a word that begins with 0 is the one byte
  zero-alone : 0 < length w → get_or w 0 0 ≡ 48 → length w ≡ 1
  zero-alone p e = go (ltb 1 (length w)) refl
    where
      go : (t : Bool) → ltb 1 (length w) ≡ t → length w ≡ 1
      go true l = absurd (false≢true (sym z ∙ rw l (eq-eqb (get_or w 0 0) 48 e)))
      go false l = let k = ltb-false 1 (length w) l in omega arith

  pub its-value : all_ascii_digits w ≡ true → 0 < length w → value_after 0 w < 2 ^ 32 → Some (value_after 0 w) ≡ number_of w
  unfolding number_of
  its-value d p l =
      let v = value_after 0 w in
      let same : decimal v ≡ w = decimal-digits_value values w d p (zero-alone p) (omega arith) in
      let few : length w ≤ 10 = rw same at (length-decimal-le 10 v (omega arith) (omega arith) (omega arith)) in
      let value : decimal_value 0 w ≡ Some v = decimal_value-all 0 w ∙ rw d in
      simp (ne_eqb (length w) 0 (λ e. omega arith), le-ltb 10 (length w) few, z, value, le-ltb 4294967295 v (omega arith))

  pub read_as : {E : Type 0} (r : Result ℕ E) → ParsesUnsigned 32 10 w r → get_or w 0 0 ≢ 43 → result_ok r ≡ number_of w
  read_as r h s = go r (parse_plain values 32 w r h s)
    where
      go : {E : Type 0} (r : Result ℕ E) → OkIff r ((all_ascii_digits w ≡ true) × (0 < length w) × (value_after 0 w < 2 ^ 32)) (value_after 0 w) → result_ok r ≡ number_of w
      go (Ok x) q = ap Some q.1 ∙ its-value q.0.0 q.0.1 q.0.2
      go (Err e) n = none_if w (λ m k. n (k.digits, k.some, omega (arith, k.value, k.small)))
