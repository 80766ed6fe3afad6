-- One slot's bytes: whether it is taken, the record that it holds, and the bytes that hold a record. Assumes nothing.
use Rattle.std.specs.Prelude.{◌≡◌, Bool, not, List, ℕ, ◌+◌, ◌*◌, eqb, get_or, take, drop, Some}
use Rattle.records.specs.Pack.{size, unpack}
use Rattle.records.specs.Slots.{RecordLayout, whole, record_fields, slot_bytes}

module _ {A : Type 0} (k : RecordLayout A) where
  -- the numbers of the slot
  unfoldable pub slot_numbers : List ℕ → List ℕ
  slot_numbers s = unpack (whole k) s

  -- its first bit is set
  unfoldable pub is_taken : List ℕ → Bool
  is_taken s = not (eqb (get_or (slot_numbers s) 0 0) 0)

  -- the record of its fields
  unfoldable pub record_in : List ℕ → A
  record_in s = k.of (record_fields k (slot_numbers s))

  -- the bytes of a taken slot
  unfoldable pub record_bytes : A → List ℕ
  record_bytes a = slot_bytes k (Some a)

  -- the slot is that of the record that it holds
  abbrev pub IsPacked : List ℕ → Type 0
  IsPacked s = record_bytes (record_in s) ≡ s

  -- the bytes of slot i and its numbers, the first slot beginning at byte f
  abbrev pub slot_part : (f : ℕ) → List ℕ → (i : ℕ) → List ℕ
  slot_part f b i = take (size (whole k)) (drop (f + i * size (whole k)) b)

  unfoldable pub slot_at : (f : ℕ) → List ℕ → (i : ℕ) → List ℕ
  slot_at f b i = slot_numbers (slot_part f b i)
