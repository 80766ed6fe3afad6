-- Rows of bits: the numbers that they write, the bits of a number, and the parts of a row.
use mathlib.Core.Path.{◌≡◌, refl, sym, ap, ap₂, ◌∙◌, subst}
use mathlib.Core.Bool.{Bool, true, false}
use mathlib.Core.List.{List, [], ◌∷◌, ◌++◌, append_assoc}
use Prim.Native.Nat.{ℕ, zero, suc, ◌+◌, ◌*◌, ◌/◌, ◌%◌, ◌^◌, ◌≤◌, ◌<◌}
use native.Mathlib.Nat.{le_trans, le_of_eq, lt_of_lt_of_le, zero-lt-suc, suc_inj, suc-ne-zero, not-suc-le-zero, le_of_suc-le-suc, min-le_left}
use native.Mathlib.Nat.{zero-mul, zero-add, suc-add, add_assoc, add_comm, add-mul, mul_assoc, mul_comm, mod-lt, mod-eq_of_lt, mod-one, pow-suc}
use native.Mathlib.Numerals.{one-add}
use native.Mathlib.Omega.{arith}
use lib.ListN.{length, take, drop, length-append, length-take, length-drop, take-append-drop}
use lib.Seq.{length-take-le, take-append-le, drop-append-le, drop-append-add, drop-drop}
use lib.Arith.{digits_lt}
use lib.Dec.{eqb}
use lib.Pow.{pow_mono, pow-add, high, low, mod-pow-add, shr-shr}
use Rattle.fields.specs.Field.{bit, value, bits_of}

-- ---- the number that a row writes

pub value-append : (xs ys : List Bool) → value (xs ++ ys) ≡ value xs * 2 ^ length ys + value ys
unfolding value
value-append [] ys = sym (ap (λ (n : ℕ). n + value ys) (zero-mul (2 ^ length ys)) ∙ zero-add (value ys))
value-append (d ∷ ds) ys =
    ap₂ (λ (a b : ℕ). bit d * a + b) (ap (λ (n : ℕ). 2 ^ n) (length-append ds ys) ∙ pow-add 2 (length ds) (length ys)) (value-append ds ys)
    ∙ simp (add-mul, mul_assoc, add_assoc)

bit-lt : (d : Bool) → bit d < 2
bit-lt false = omega arith
bit-lt true = omega arith

value-lt : (l : List Bool) → value l < 2 ^ length l
unfolding value
value-lt [] = omega arith
value-lt (d ∷ ds) =
    subst (λ (n : ℕ). bit d * 2 ^ length ds + value ds < n) (mul_comm 2 (2 ^ length ds) ∙ sym (pow-suc 2 (length ds)))
    (digits_lt (bit-lt d) (value-lt ds))

pub value-take-lt : (w : ℕ) (l : List Bool) → value (take w l) < 2 ^ w
value-take-lt w l =
    lt_of_lt_of_le (value-lt (take w l)) (pow_mono {j = w} (le_trans (le_of_eq (length-take w l)) (min-le_left w (length l))))

bit_inj : (x y : Bool) → bit x ≡ bit y → x ≡ y
bit_inj false false e = refl
bit_inj false true e = absurd (suc-ne-zero 0 (sym e))
bit_inj true false e = absurd (suc-ne-zero 0 e)
bit_inj true true e = refl

-- rows of one length that write the same number are the same row
value_inj : (xs ys : List Bool) → length xs ≡ length ys → value xs ≡ value ys → xs ≡ ys
unfolding value
value_inj [] [] e h = refl
value_inj [] (y ∷ ys) e h = absurd (suc-ne-zero (length ys) (sym e))
value_inj (x ∷ xs) [] e h = absurd (suc-ne-zero (length xs) e)
value_inj (x ∷ xs) (y ∷ ys) e h =
    let n : ℕ = length xs in
    let g : bit x * 2 ^ n + value xs ≡ bit y * 2 ^ n + value ys = h ∙ ap (λ (k : ℕ). bit y * 2 ^ k + value ys) (sym (suc_inj e)) in
    let l : value ys < 2 ^ n = subst (λ (k : ℕ). value ys < 2 ^ k) (sym (suc_inj e)) (value-lt ys) in
    let head : bit x ≡ bit y = sym (high (bit x) n (value-lt xs)) ∙ ap (λ (k : ℕ). k / 2 ^ n) g ∙ high (bit y) n l in
    let tail : value xs ≡ value ys = sym (low (bit x) n (value-lt xs)) ∙ ap (λ (k : ℕ). k % 2 ^ n) g ∙ low (bit y) n l in
    ap₂ (λ (d : Bool) (ds : List Bool). d ∷ ds) (bit_inj x y head) (value_inj xs ys (suc_inj e) tail)

-- ---- the bits of a number

pub length-bits_of : (w n : ℕ) → length (bits_of w n) ≡ w
unfolding bits_of
length-bits_of zero n = refl
length-bits_of (suc w) n = ap suc (length-bits_of w _)

bit-eqb : (m : ℕ) → m < 2 → bit (eqb m 1) ≡ m
bit-eqb zero h = refl
bit-eqb (suc zero) h = refl
bit-eqb (suc (suc m)) h = absurd (not-suc-le-zero (le_of_suc-le-suc (le_of_suc-le-suc h)))

pub value-bits_of : (w n : ℕ) → value (bits_of w n) ≡ n % 2 ^ w
unfolding value bits_of
value-bits_of zero n = sym (mod-one n)
value-bits_of (suc w) n =
    ap₂ (λ (a b : ℕ). a + b)
    (ap₂ (λ (a k : ℕ). a * 2 ^ k) (bit-eqb (n / 2 ^ w % 2) (mod-lt (n / 2 ^ w) (zero-lt-suc 1))) (length-bits_of w n))
    (value-bits_of w n)
    ∙ sym (mod-pow-add n 1 w) ∙ ap (λ (k : ℕ). n % 2 ^ k) (one-add w)

-- a row is the bits of the number that it writes
pub bits_of-value : (w : ℕ) (l : List Bool) → length l ≡ w → bits_of w (value l) ≡ l
bits_of-value w l e =
    value_inj (bits_of w (value l)) l (length-bits_of w (value l) ∙ sym e)
    (value-bits_of w (value l) ∙ mod-eq_of_lt (subst (λ (k : ℕ). value l < 2 ^ k) e (value-lt l)))

pub bits_of-add : (j k n : ℕ) → bits_of (j + k) n ≡ bits_of j (n / 2 ^ k) ++ bits_of k n
unfolding bits_of
bits_of-add zero k n = ap (λ (m : ℕ). bits_of m n) (zero-add k)
bits_of-add (suc j) k n =
    ap (λ (m : ℕ). bits_of m n) (suc-add j k)
    ∙ ap₂ (λ (a : ℕ) (r : List Bool). eqb (a % 2) 1 ∷ r) (ap (λ (m : ℕ). n / 2 ^ m) (add_comm j k) ∙ sym (shr-shr n k j)) (bits_of-add j k n)

-- ---- a part of a row: w bits from bit r on

-- a part of the first of two rows
pub part_left : (p q : List Bool) (r w : ℕ) → r + w ≤ length p → take w (drop r (p ++ q)) ≡ take w (drop r p)
part_left p q r w h =
    ap (take w) (drop-append-le r p q (omega arith)) ∙ take-append-le w (drop r p) q (omega (arith, length-drop r p))

-- what comes k bits into the second of two rows
pub drop-right : (p q : List Bool) (r k : ℕ) → length p + k ≡ r → drop r (p ++ q) ≡ drop k q
drop-right p q r k e = ap (λ (m : ℕ). drop m (p ++ q)) (sym e) ∙ drop-append-add p q k

-- a part of a part
pub part-of-part : (l : List Bool) (i n r w : ℕ) → i + n ≤ length l → r + w ≤ n → take w (drop r (take n (drop i l))) ≡ take w (drop (i + r) l)
part-of-part l i n r w h g =
    let d : List Bool = drop i l in
    sym (part_left (take n d) (drop n d) r w (omega (arith, length-take-le n d (omega (arith, length-drop i l)))))
    ∙ ap (λ (x : List Bool). take w (drop r x)) (take-append-drop n d) ∙ ap (take w) (drop-drop r i l)

-- a row from bit r on: the rest of its first n bits, and the bits after these
pub drop-take-append : (l : List Bool) (r n : ℕ) → r ≤ n → n ≤ length l → drop r (take n l) ++ drop n l ≡ drop r l
drop-take-append l r n h g = sym (drop-append-le r (take n l) (drop n l) (omega (arith, length-take-le n l g))) ∙ ap (drop r) (take-append-drop n l)

-- the row l: r bits, then the part, then the bits below it
module _ (l : List Bool) (r w below : ℕ) (whole : length l ≡ r + (w + below)) where
  length_part : length (take w (drop r l)) ≡ w
  length_part = length-take-le w (drop r l) (omega (arith, length-drop r l))

  length-below : length (drop (r + w) l) ≡ below
  length-below = omega (arith, length-drop (r + w) l)

  below-lt : value (drop (r + w) l) < 2 ^ below
  below-lt = subst (λ (k : ℕ). value (drop (r + w) l) < 2 ^ k) length-below (value-lt (drop (r + w) l))

  -- the number of the row with m for its part
  value-with : (m : List Bool) → length m ≡ w
      → value (take r l ++ (m ++ drop (r + w) l)) ≡ (value (take r l) * 2 ^ w + value m) * 2 ^ below + value (drop (r + w) l)
  value-with m e =
      ap value (sym (append_assoc (take r l) m (drop (r + w) l))) ∙ value-append (take r l ++ m) (drop (r + w) l)
      ∙ ap₂ (λ (x k : ℕ). x * 2 ^ k + value (drop (r + w) l))
      (value-append (take r l) m ∙ ap (λ (k : ℕ). value (take r l) * 2 ^ k + value m) e) length-below

  value-split : value l ≡ (value (take r l) * 2 ^ w + value (take w (drop r l))) * 2 ^ below + value (drop (r + w) l)
  value-split =
      ap value
      (sym (take-append-drop r l)
      ∙ ap (λ (x : List Bool). take r l ++ x) (sym (take-append-drop w (drop r l)) ∙ ap (λ (x : List Bool). take w (drop r l) ++ x) (drop-drop w r l)))
      ∙ value-with (take w (drop r l)) length_part

  value_shifted : value l / 2 ^ below ≡ value (take r l) * 2 ^ w + value (take w (drop r l))
  value_shifted = ap (λ (x : ℕ). x / 2 ^ below) value-split ∙ high (value (take r l) * 2 ^ w + value (take w (drop r l))) below below-lt

  -- the part, by the number of the whole row
  pub value-part : value (take w (drop r l)) ≡ value l / 2 ^ below % 2 ^ w
  value-part = sym (ap (λ (x : ℕ). x % 2 ^ w) value_shifted ∙ low (value (take r l)) w (value-take-lt w (drop r l)))

  -- the row with the bits of v for its part, by the number of the whole row
  pub value-replaced : (v : ℕ) → v < 2 ^ w
      → value (take r l ++ (bits_of w v ++ drop (r + w) l)) ≡ (value l / 2 ^ below / 2 ^ w * 2 ^ w + v) * 2 ^ below + value l % 2 ^ below
  value-replaced v h =
      value-with (bits_of w v) (length-bits_of w v)
      ∙ ap (λ (x : ℕ). (value (take r l) * 2 ^ w + x) * 2 ^ below + value (drop (r + w) l)) (value-bits_of w v ∙ mod-eq_of_lt h)
      ∙ sym (ap₂ (λ (x y : ℕ). (x * 2 ^ w + v) * 2 ^ below + y)
      (ap (λ (x : ℕ). x / 2 ^ w) value_shifted ∙ high (value (take r l)) w (value-take-lt w (drop r l)))
      (ap (λ (x : ℕ). x % 2 ^ below) value-split ∙ low (value (take r l) * 2 ^ w + value (take w (drop r l))) below below-lt))
