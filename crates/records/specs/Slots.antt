-- An array of equal records, each of which may be absent. A slot is one bit that says whether the record is there, the record's
-- fields, and padding that stays zero; a slot without a record is all zeros. Assumes nothing.
use Rattle.std.specs.Prelude.{◌≡◌, Bool, true, cond, ◌&&◌, List, ◌∷◌, ◌++◌, map, ℕ, suc, eqb, length, take, drop, get_or, Option, None, Some}
use Rattle.basics.specs.Tests.{every}
use Rattle.fields.specs.Fields.{Fit}
use Rattle.records.specs.Pack.{size, WholeBytes, pack, unpack, cut, join}

-- each number is zero
abbrev pub all_zero : List ℕ → Bool
all_zero v = every (map (λ x. eqb x 0) v)

-- a zero for each width
abbrev pub zeros_for : List ℕ → List ℕ
zeros_for ws = map (λ w. 0) ws

-- a kind of record: the widths of its fields, those of the padding, the values of its fields, and the record of such values
pub record RecordLayout (A : Type 0) : Type 0 where
  pub widths : List ℕ
  pub zeros : List ℕ
  pub values : A → List ℕ
  pub of : List ℕ → A

module _ {A : Type 0} (k : RecordLayout A) where
  -- the widths of a slot
  abbrev pub whole : List ℕ
  whole = 1 ∷ (k.widths ++ k.zeros)

  -- of a slot's numbers, those of the record's fields
  abbrev pub record_fields : List ℕ → List ℕ
  record_fields v = take (length k.widths) (drop 1 v)

  -- the numbers of a slot, and what a slot of such numbers holds
  unfoldable pub slot_out : Option A → List ℕ
  slot_out None = zeros_for whole
  slot_out (Some a) = 1 ∷ (k.values a ++ zeros_for k.zeros)

  unfoldable pub slot_in : List ℕ → Option A
  slot_in v = cond (eqb (get_or v 0 0) 0) None (Some (k.of (record_fields v)))

  -- the padding is zero; without a record all is zero, and a record's fields pass the test
  unfoldable pub slot_ok : (List ℕ → Bool) → List ℕ → Bool
  slot_ok test v = all_zero (drop (suc (length k.widths)) v) && cond (eqb (get_or v 0 0) 0) (all_zero v) (test (record_fields v))

  -- a record that is there passes the test by its fields
  abbrev pub passes : (List ℕ → Bool) → Option A → Bool
  passes test None = true
  passes test (Some a) = test (k.values a)

  -- the numbers of the n slots that b begins with, and what they hold
  unfoldable pub slots : ℕ → List ℕ → List (List ℕ)
  slots n b = map (unpack whole) (cut (size whole) n b)

  unfoldable pub array_in : ℕ → List ℕ → List (Option A)
  array_in n b = map slot_in (slots n b)

  -- the bytes of a slot, and of an array of slots
  abbrev pub slot_bytes : Option A → List ℕ
  slot_bytes o = pack whole (slot_out o)

  unfoldable pub array_out : List (Option A) → List ℕ
  array_out os = join (map slot_bytes os)

-- what a kind of record owes: a slot is of whole bytes; and where the fields pass the test, a record is that of its values, the values
-- of a record are those that it was made of, and they fit their widths
pub record RecordLaws {A : Type 0} (k : RecordLayout A) (test : List ℕ → Bool) : Type 0 where
  pub aligned : WholeBytes (whole k)
  pub of_values : (a : A) → test (k.values a) ≡ true → k.of (k.values a) ≡ a
  pub values_of : (v : List ℕ) → length v ≡ length k.widths → test v ≡ true → k.values (k.of v) ≡ v
  pub fits : (a : A) → test (k.values a) ≡ true → Fit k.widths (k.values a)
