-- One number of a record's slot is written: the slot of the record with that number, whatever padding it has. Assumes nothing.
use Rattle.std.specs.Prelude.{Some}
use mathlib.Core.Path.{◌≡◌, sym, ap, ◌∙◌, subst}
use mathlib.Core.List.{List, ◌++◌, append-nil}
use Prim.Native.Nat.{ℕ, ◌+◌, ◌<◌}
use native.Mathlib.Nat.{zero-add}
use native.Mathlib.Omega.{arith}
use lib.ListN.{length, take, drop, get_or, set}
use lib.Seq.{drop-length}
use Rattle.fields.specs.Field.{set_field}
use Rattle.fields.specs.Fields.{Fit, fields, sum}
use Rattle.records.specs.Pack.{size, WholeBytes, pack, unpack}
use Rattle.records.specs.Slots.{RecordLayout, whole, slot_out}
use Rattle.records.specs.OneSlot.{record_bytes}
use Rattle.records.specs.Edits.{replace_at}
use Rattle.records.proofs.Pack.{length-pack, are-pack, unpack-pack, set_field-within}

-- bytes written over as many
pub replaced-all : (p s : List ℕ) → length p ≡ length s → replace_at 0 p s ≡ p
unfolding replace_at
replaced-all p s e =
    let end : 0 + length p ≡ length s = omega (arith, e) in
    ap (λ (n : ℕ). p ++ drop n s) end ∙ ap (λ (r : List ℕ). p ++ r) (drop-length s) ∙ append-nil p

module _ {A : Type 0} (k : RecordLayout A) (e : WholeBytes (whole k)) (a b : A) (j v : ℕ) (inside : j < length (whole k)) (fits : Fit (whole k) (slot_out k (Some a))) (same : set (slot_out k (Some a)) j v ≡ slot_out k (Some b)) (fit : Fit (whole k) (slot_out k (Some b))) where
  read : fields (record_bytes k a) 0 (whole k) ≡ slot_out k (Some a)
  unfolding record_bytes unpack
  read = unpack-pack (whole k) (slot_out k (Some a)) e fits

  numbers : set (fields (record_bytes k a) 0 (whole k)) j v ≡ slot_out k (Some b)
  numbers = ap (λ (ns : List ℕ). set ns j v) read ∙ same

  long : (c : A) → length (record_bytes k c) ≡ size (whole k)
  unfolding record_bytes
  long c = length-pack (whole k) (slot_out k (Some c))

  pub number-set : set_field (record_bytes k a) (sum (take j (whole k))) (get_or (whole k) j 0) v ≡ record_bytes k b
  unfolding record_bytes
  number-set =
      let s : List ℕ = record_bytes k a in
      ap (λ (n : ℕ). set_field s n (get_or (whole k) j 0) v) (sym (zero-add (sum (take j (whole k)))))
      ∙ set_field-within s 0 (whole k) j v (are-pack (whole k) (slot_out k (Some a))) e (omega (arith, long a)) inside (subst (λ (ns : List ℕ). Fit (whole k) ns) (sym numbers) fit)
      ∙ ap (λ (ns : List ℕ). replace_at 0 (pack (whole k) ns) s) numbers
      ∙ replaced-all (record_bytes k b) s (long b ∙ sym (long a))
