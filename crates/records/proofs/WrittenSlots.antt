-- A slot's bytes with all its fields written: the values that fit, and the record that the bytes then hold. Assumes nothing.
use mathlib.Core.Path.{◌≡◌, sym, ap, subst, ◌∙◌}
use mathlib.Core.List.{List, ◌∷◌, ◌++◌}
use Prim.Native.Nat.{ℕ}
use native.Mathlib.Omega.{arith}
use lib.ListN.{length}
use Rattle.fields.specs.Fields.{Fit}
use Rattle.records.specs.Pack.{size, pack}
use Rattle.records.specs.Slots.{RecordLayout, zeros_for, whole, slot_out}
use Rattle.records.specs.OneSlot.{record_bytes}
use Rattle.records.specs.Edits.{replace_at}
use Rattle.records.proofs.Slots.{fit_append, fit-blank}
use Rattle.records.proofs.Pack.{length-pack}
use Rattle.records.proofs.NumberSet.{replaced-all}
use Rattle.records.specs.Widths.{WidthsOk, Writable}

-- a slot's numbers fit where its record's do
pub whole-fits : {A : Type 0} (k : RecordLayout A) (a : A) → Fit k.widths (k.values a) → Fit (whole k) (1 ∷ (k.values a ++ zeros_for k.zeros))
whole-fits k a f = (omega arith, fit_append k.widths (k.values a) k.zeros (zeros_for k.zeros) f (fit-blank k.zeros))

module _ {A : Type 0} (k : RecordLayout A) (ok : WidthsOk (whole k)) (a : A) (s vs : List ℕ) where
  module _ (long : length s ≡ size (whole k)) (are : vs ≡ 1 ∷ (k.values a ++ zeros_for k.zeros)) where
    pub slot-writable : Fit k.widths (k.values a) → Writable s (whole k) vs
    slot-writable f = record { widths = ok; room = omega arith; values = subst (Fit (whole k)) (sym are) (whole-fits k a f) }

    pub slot-written : (t : List ℕ) → t ≡ replace_at 0 (pack (whole k) vs) s → t ≡ record_bytes k a
    unfolding record_bytes slot_out
    slot-written t e = e ∙ replaced-all (pack (whole k) vs) s (length-pack (whole k) vs ∙ sym long) ∙ ap (pack (whole k)) are
