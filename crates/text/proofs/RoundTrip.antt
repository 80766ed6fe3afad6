-- The digits of a number are read as that number. Assumes nothing.
use Rattle.std.proofs.Common.{◌≡◌, ℕ, ◌^◌, ◌<◌, Bool, true, false, cond, ltb, length, get_or, Some, refl, sym, ap, ◌∙◌, arith, ltb-true, ltb-false, ne_eqb}
use Rattle.std.specs.Fmt.{decimal}
use Rattle.std.proofs.lemmas.Fmt.{digits_decimal, digits_value-decimal, decimal_digit, decimal_nonempty, first_decimal}
use Rattle.text.specs.Numbers.{has_leading_zero, NumbersReadBack}
use Rattle.text.proofs.Digits.{digits-decimal}
use Rattle.text.proofs.WordNumbers.{values, its-value}

no-zero : (n : ℕ) → n < 2 ^ 64 → has_leading_zero (decimal n) ≡ false
no-zero n h = by_size (ltb n 10) refl
  where
    none : (t : Bool) {u : Bool} → u ≡ false → cond t u false ≡ false
    none true e = e
    none false e = refl

    by_size : (t : Bool) → ltb n 10 ≡ t → has_leading_zero (decimal n) ≡ false
    by_size true e = rw (decimal_digit n (ltb-true n 10 e))
    by_size false e =
        let l = ltb-false n 10 e in
        let first = first_decimal n (omega arith) h in
        none (ltb 1 (length (decimal n))) (ne_eqb (get_or (decimal n) 0 0) 48 (λ q. omega arith))

pub numbers_read_back : NumbersReadBack
numbers_read_back n h =
    let l : n < 2 ^ 64 = omega arith in
    let value = digits_value-decimal values n l in
    rw (digits-decimal n l) (sym (its-value (decimal n) (no-zero n l) (digits_decimal values n l) (decimal_nonempty n l) (omega (arith, value))) ∙ ap Some value)
