-- A field got and put by the number that all of the bytes write, or those of a window that holds it. Assumes nothing.
use mathlib.Core.Path.{◌≡◌, sym, ap, ◌∙◌}
use mathlib.Core.List.{List}
use Prim.Native.Nat.{ℕ, ◌+◌, ◌-◌, ◌*◌, ◌/◌, ◌%◌, ◌^◌, ◌≤◌, ◌<◌}
use native.Mathlib.Nat.{mod-lt}
use native.Mathlib.Omega.{arith}
use borrow.Rule.Slice.PartMut.{put_mid}
use lib.Pow.{pow_mono, pow_pos}
use lib.ListN.{length, take, drop, length-drop}
use lib.Seq.{length-take-le}
use Rattle.fields.specs.Field.{value, bits_of, bits, bytes_of_bits, field_at, set_field, AreBytes}
use Rattle.fields.proofs.Bits.{bits_of-value, value-part, value-replaced}
use Rattle.fields.proofs.Laws.{field-window, length-bits, bytes_bits, length-set_field, are-set_field, bits-set_field, set_field-within}

-- w bits are a number of any more bits
pub part_lt : (x w m r : ℕ) → r ≡ x % 2 ^ w → w ≤ m → r < 2 ^ m
part_lt x w m r e h = let most : 2 ^ w ≤ 2 ^ m = pow_mono h in omega (arith, mod-lt x (pow_pos w))

-- x is the number of the bytes b, and r the w bits of it that have `below` bits below them
pub got-whole : (b : List ℕ) (at w below x r : ℕ) → x ≡ value (bits b) → r ≡ x / 2 ^ below % 2 ^ w → at + (w + below) ≡ 8 * length b → r ≡ field_at b at w
unfolding field_at
got-whole b at w below x r ex er e = er ∙ ap (λ (k : ℕ). k / 2 ^ below % 2 ^ w) ex ∙ sym (value-part (bits b) at w below (length-bits b ∙ sym e))

-- x is the number of n bytes from byte f on
pub got-window : (b : List ℕ) (at w f n below x r : ℕ) → x ≡ value (bits (take n (drop f b))) → r ≡ x / 2 ^ below % 2 ^ w
    → f + n ≤ length b → 8 * f ≤ at → at + w + below ≡ 8 * (f + n) → r ≡ field_at b at w
got-window b at w f n below x r ex er h g e =
    let same : 8 * f + (at - 8 * f) ≡ at = omega arith in
    er ∙ ap (λ (k : ℕ). k / 2 ^ below % 2 ^ w) ex
    ∙ sym (field-window b f n h (at - 8 * f) w below (omega arith)) ∙ ap (λ (k : ℕ). field_at b k w) same

-- x is the number of the bytes b, y that number with v inserted, and c the bytes of y
pub put-whole : (b c : List ℕ) (at w v below x y : ℕ) → x ≡ value (bits b) → y ≡ (x / 2 ^ below / 2 ^ w * 2 ^ w + v) * 2 ^ below + x % 2 ^ below
    → c ≡ bytes_of_bits (length b) (bits_of (8 * length b) y) → at + (w + below) ≡ 8 * length b → v < 2 ^ w → c ≡ set_field b at w v
put-whole b c at w v below x y ex ey ec e hv =
    let q : List ℕ = set_field b at w v in
    let same : length q ≡ length b = length-set_field b at w v in
    let number : y ≡ value (bits q) =
    ey ∙ ap (λ (k : ℕ). (k / 2 ^ below / 2 ^ w * 2 ^ w + v) * 2 ^ below + k % 2 ^ below) ex
    ∙ sym (ap value (bits-set_field b at w (omega arith) v) ∙ value-replaced (bits b) at w below (length-bits b ∙ sym e) v hv) in
    ec ∙ ap (λ (k : ℕ). bytes_of_bits k (bits_of (8 * k) y)) (sym same)
    ∙ ap (bytes_of_bits (length q)) (ap (bits_of (8 * length q)) number ∙ bits_of-value (8 * length q) (bits q) (length-bits q))
    ∙ bytes_bits q (are-set_field b at w v)

-- the same of n bytes from byte f on, with c written over them
pub put-window : (b c : List ℕ) (at w v f n below x y : ℕ) → x ≡ value (bits (take n (drop f b)))
    → y ≡ (x / 2 ^ below / 2 ^ w * 2 ^ w + v) * 2 ^ below + x % 2 ^ below
    → c ≡ bytes_of_bits (length (take n (drop f b))) (bits_of (8 * length (take n (drop f b))) y)
    → f + n ≤ length b → 8 * f ≤ at → at + w + below ≡ 8 * (f + n) → v < 2 ^ w → AreBytes (put_mid f n b c) → put_mid f n b c ≡ set_field b at w v
put-window b c at w v f n below x y ex ey ec h g e hv hb =
    let r : ℕ = at - 8 * f in
    let same : 8 * f + r ≡ at = omega arith in
    let l : length (take n (drop f b)) ≡ n = length-take-le n (drop f b) (omega (arith, length-drop f b)) in
    let field : c ≡ set_field (take n (drop f b)) r w v = put-whole (take n (drop f b)) c r w v below x y ex ey ec (omega arith) hv in
    ap (put_mid f n b) field
    ∙ set_field-within b f n h r w v (omega arith) (rw field at hb) ∙ ap (λ (k : ℕ). set_field b k w v) same
