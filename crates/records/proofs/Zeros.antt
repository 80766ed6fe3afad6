-- A record of zeros, a free slot and free slots are zero bytes. Assumes nothing.
use Rattle.std.specs.Prelude.{None}
use mathlib.Core.Path.{◌≡◌, refl, sym, ap, ap₂, ◌∙◌}
use mathlib.Core.Bool.{Bool, true, false}
use mathlib.Core.List.{List, [], ◌∷◌, ◌++◌}
use Prim.Native.Nat.{ℕ, zero, suc, ◌+◌, ◌*◌, ◌%◌, ◌^◌, ◌≤◌}
use native.Mathlib.Omega.{arith}
use native.Mathlib.Nat.{zero-div}
use lib.Dec.{eqb}
use lib.ListN.{length, take, drop, replicate, length-drop, replicate-append-replicate}
use lib.Seq.{length-take-le, take_at, drop_at}
use Rattle.fields.specs.Field.{value, bits_of, bytes_of_bits, AreBytes}
use Rattle.fields.specs.Fields.{sum, fields, field_bits}
use Rattle.fields.proofs.Laws.{are-take, are-drop}
use Rattle.basics.proofs.Tests.{and_left, and_right, eq_yes}
use Rattle.records.specs.Pack.{size, WholeBytes, pack, unpack, join}
use Rattle.records.specs.Slots.{all_zero, zeros_for, RecordLayout, whole, slot_out, slot_bytes, array_out}
use Rattle.records.specs.Edits.{zero_at}
use Rattle.records.proofs.Pack.{fit-unpack, unpack-pack, pack-unpack, unpack-within}
use Rattle.records.proofs.Slots.{fit-blank, blank-zero, zero-blank}
use Rattle.records.proofs.Scan.{bool_same}

bits_of-zero : (w : ℕ) → bits_of w 0 ≡ replicate w false
unfolding bits_of
bits_of-zero zero = refl
bits_of-zero (suc w) = ap₂ (λ (n : ℕ) (l : List Bool). eqb (n % 2) 1 ∷ l) (zero-div (2 ^ w)) (bits_of-zero w)

field_bits-blank : (ws : List ℕ) → field_bits ws (zeros_for ws) ≡ replicate (sum ws) false
unfolding field_bits
field_bits-blank [] = refl
field_bits-blank (w ∷ ws) = ap₂ (λ (a b : List Bool). a ++ b) (bits_of-zero w) (field_bits-blank ws) ∙ replicate-append-replicate w (sum ws) false

bytes-zero : (n : ℕ) → bytes_of_bits n (replicate (8 * n) false) ≡ replicate n 0
unfolding bytes_of_bits value
bytes-zero zero = refl
bytes-zero (suc n) =
    let e : 8 * suc n ≡ 8 + 8 * n = omega arith in
    let s : replicate (8 * suc n) false ≡ replicate 8 false ++ replicate (8 * n) false =
    ap (λ (m : ℕ). replicate m false) e ∙ sym (replicate-append-replicate 8 (8 * n) false) in
    ap (bytes_of_bits (suc n)) s
    ∙ ap₂ (λ (x : ℕ) (l : List ℕ). x ∷ l) (ap value (take_at (replicate 8 false) (replicate (8 * n) false) 8 refl))
    (ap (bytes_of_bits n) (drop_at (replicate 8 false) (replicate (8 * n) false) 8 refl) ∙ bytes-zero n)

-- a record of zeros
pub pack-blank : (ws : List ℕ) → WholeBytes ws → pack ws (zeros_for ws) ≡ replicate (size ws) 0
unfolding pack
pack-blank ws e = ap (bytes_of_bits (size ws)) (field_bits-blank ws ∙ ap (λ (n : ℕ). replicate n false) e) ∙ bytes-zero (size ws)

module _ {A : Type 0} (k : RecordLayout A) (e : WholeBytes (whole k)) where
  pub free-slot : slot_bytes k None ≡ replicate (size (whole k)) 0
  unfolding slot_out
  free-slot = pack-blank (whole k) e

  pub free_array : (n : ℕ) → array_out k (replicate n None) ≡ replicate (n * size (whole k)) 0
  unfolding array_out join
  free_array zero = let z : 0 ≡ 0 * size (whole k) = omega arith in ap (λ (m : ℕ). replicate m 0) z
  free_array (suc n) =
      let z : size (whole k) + n * size (whole k) ≡ suc n * size (whole k) = omega arith in
      ap₂ (λ (a b : List ℕ). a ++ b) free-slot (free_array n)
      ∙ replicate-append-replicate (size (whole k)) (n * size (whole k)) 0 ∙ ap (λ (m : ℕ). replicate m 0) z

-- ---- bytes are zero where their fields are

all-zero : (n : ℕ) (b : List ℕ) → length b ≡ n → all_zero b ≡ true → b ≡ replicate n 0
all-zero zero [] l e = refl
all-zero zero (x ∷ b) l e = let z : ⊥ = omega arith in absurd z
all-zero (suc n) [] l e = let z : ⊥ = omega arith in absurd z
all-zero (suc n) (x ∷ b) l e =
    ap₂ (λ (y : ℕ) (r : List ℕ). y ∷ r) (eq_yes x 0 (and_left (eqb x 0) _ e)) (all-zero n b (omega arith) (and_right (eqb x 0) _ e))

zeros-zero : (n : ℕ) → all_zero (replicate n 0) ≡ true
zeros-zero zero = refl
zeros-zero (suc n) = zeros-zero n

unpack-zero : (ws b : List ℕ) → WholeBytes ws → AreBytes b → length b ≡ size ws → all_zero b ≡ all_zero (unpack ws b)
unpack-zero ws b e h l = bool_same (all_zero b) (all_zero (unpack ws b)) to from
  where
    to : all_zero b ≡ true → all_zero (unpack ws b) ≡ true
    to z =
        ap (λ (x : List ℕ). all_zero (unpack ws x)) (all-zero (size ws) b l z ∙ sym (pack-blank ws e))
        ∙ ap all_zero (unpack-pack ws (zeros_for ws) e (fit-blank ws)) ∙ blank-zero ws

    from : all_zero (unpack ws b) ≡ true → all_zero b ≡ true
    from z =
        ap all_zero (sym (pack-unpack ws b e h l) ∙ ap (pack ws) (sym (zero-blank ws (unpack ws b) (fit-unpack ws b) z)) ∙ pack-blank ws e)
        ∙ zeros-zero (size ws)

-- the record at byte f is zero bytes exactly where its fields are zero
pub zero_at-fields : (b : List ℕ) (f : ℕ) (ws : List ℕ) → AreBytes b → WholeBytes ws → f + size ws ≤ length b
    → zero_at f (size ws) b ≡ all_zero (fields b (8 * f) ws)
unfolding zero_at
zero_at-fields b f ws hb e h =
    unpack-zero ws (take (size ws) (drop f b)) e (are-take (size ws) (drop f b) (are-drop f b hb))
    (length-take-le (size ws) (drop f b) (omega (arith, length-drop f b)))
    ∙ ap all_zero (unpack-within b f ws e h)
