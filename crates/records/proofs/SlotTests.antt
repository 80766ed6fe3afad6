-- The test of a slot: by its padding, its first bit, and its fields. Assumes nothing.
use mathlib.Core.Path.{◌≡◌, refl, sym, ◌∙◌}
use mathlib.Core.Bool.{Bool, true, false, not}
use mathlib.Core.List.{List, [], ◌∷◌}
use Prim.Native.Nat.{ℕ, suc}
use native.Mathlib.Omega.{arith}
use lib.Dec.{eqb}
use lib.ListN.{length, drop, get_or}
use borrow.Author.Tests.{not-true, not-false}
use Rattle.std.proofs.Math.Bool.{and-true}
use Rattle.fields.specs.Field.{AreBytes}
use Rattle.records.specs.Pack.{size, unpack}
use Rattle.records.specs.Slots.{RecordLayout, whole, record_fields, all_zero, slot_ok}
use Rattle.records.specs.OneSlot.{slot_numbers, is_taken}
use Rattle.records.specs.Edits.{zero_at}
use Rattle.records.proofs.Zeros.{zero_at-fields}
use Rattle.records.specs.Widths.{WidthsOk}

-- the zeros of a slot with one number for them
pub zeros-set : (x r : ℕ) → r ≡ x → not (eqb r 0) ≡ not (all_zero (x ∷ []))
zeros-set x r e = rw (e, and-true) refl

module _ {A : Type 0} (k : RecordLayout A) (s : List ℕ) where
  abbrev v : List ℕ
  v = slot_numbers k s

  abbrev padding : List ℕ
  padding = drop (suc (length k.widths)) v

  -- zero bytes are zero numbers
  pub zero-numbers : WidthsOk (whole k) → AreBytes s → length s ≡ size (whole k) → (r : Bool) → r ≡ zero_at 0 (size (whole k)) s → r ≡ all_zero v
  unfolding slot_numbers unpack
  zero-numbers ok b long r e = e ∙ zero_at-fields s 0 (whole k) b ok.aligned (omega arith)

  module _ (test : List ℕ → Bool) (p : Bool) (padded : p ≡ not (all_zero padding)) where
    pub padding-set : p ≡ true → false ≡ slot_ok k test v
    unfolding slot_ok
    padding-set e = let f : all_zero padding ≡ false = not-true _ (sym padded ∙ e) in rw f

    module _ (e : p ≡ false) (o : Bool) (first : o ≡ is_taken k s) (r : Bool) where
      zeros : all_zero padding ≡ true
      zeros = not-false _ (sym padded ∙ e)

      pub slot-taken : o ≡ true → r ≡ test (record_fields k v) → r ≡ slot_ok k test v
      unfolding slot_ok is_taken
      slot-taken f g = let h : eqb (get_or v 0 0) 0 ≡ false = not-true _ (sym first ∙ f) in rw (zeros, h) g

      pub slot-free : o ≡ false → r ≡ all_zero v → r ≡ slot_ok k test v
      unfolding slot_ok is_taken
      slot-free f g = let h : eqb (get_or v 0 0) 0 ≡ true = not-false _ (sym first ∙ f) in rw (zeros, h) g

pub ruleset slot-tests = (padding-set, slot-taken, slot-free)
