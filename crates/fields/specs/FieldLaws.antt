-- Document 01, "Agreed between us": "The law of packed fields is shown for every width at once". And examples of "Fields are packed most
-- significant bit first; a field may straddle bytes". Assumes nothing.
use Rattle.std.specs.Prelude.{◌≡◌, List, [], ◌∷◌, ◌⊎◌, ℕ, ◌+◌, ◌*◌, ◌^◌, ◌≤◌, ◌<◌, length}
use Rattle.fields.specs.Field.{field_at, set_field, AreBytes}

-- of bytes b, and of the field of w bits from bit `at` on, wherever it lies in them
pub record FieldLaws : Type 0 where
  -- what was put is what is got
  pub put_got : (b : List ℕ) (at w v : ℕ) → at + w ≤ 8 * length b → v < 2 ^ w → field_at (set_field b at w v) at w ≡ v
  -- a field that shares no bit with it is untouched
  pub others_untouched : (b : List ℕ) (at w v at' w' : ℕ) → at + w ≤ 8 * length b → (at' + w' ≤ at) ⊎ (at + w ≤ at')
      → field_at (set_field b at w v) at' w' ≡ field_at b at' w'
  -- putting back what was got changes no byte
  pub got_put : (b : List ℕ) (at w : ℕ) → at + w ≤ 8 * length b → AreBytes b → set_field b at w (field_at b at w) ≡ b

pub record FieldExamples : Type 0 where
  -- the most significant bit of a byte comes first
  pub first_bit : field_at (0x80 ∷ []) 0 1 ≡ 1
  -- a field that straddles two bytes, and 50 bits from bit 3 on
  pub straddling : field_at (0xab ∷ 0xcd ∷ 0xef ∷ []) 4 8 ≡ 0xbc
  pub fifty_bits : field_at (0x1f ∷ 0xff ∷ 0xff ∷ 0xff ∷ 0xff ∷ 0xff ∷ 0xf8 ∷ []) 3 50 ≡ 0x3_ffff_ffff_ffff
  -- a field put across three bytes
  pub straddling_put : set_field (0xab ∷ 0xcd ∷ 0x6f ∷ []) 6 11 0x555 ≡ 0xaa ∷ 0xaa ∷ 0xef ∷ []
