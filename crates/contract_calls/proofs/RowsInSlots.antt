-- The slots of the rows of a well-formed ledger. Assumes nothing.
use mathlib.Core.Path.{◌≡◌, refl, sym, ap, ap₂, ◌∙◌}
use mathlib.Core.List.{List}
use Prim.Native.Nat.{ℕ, ◌<◌}
use native.Mathlib.Omega.{arith}
use lib.ListN.{take, drop}
use lib.Seq.{set-get_or}
use Rattle.records.specs.Edits.{replace_at}
use Rattle.records.proofs.Replaced.{replaced-part}
use Rattle.records.specs.OneSlot.{record_in, record_bytes, IsPacked}
use Rattle.model.specs.declared.Row.{Row}
use Rattle.model.specs.Ledger.{ledger_with_rows}
use Rattle.layout.specs.PresentLayout.{row_record}
use Rattle.layout.specs.Offsets.{row_start, row_part, row_length}
use Rattle.layout.specs.Present.{facts, bytes, row_at, Searched}
use Rattle.layout.proofs.Present.{present, row-in-slot, formed-length, repacked}
use Rattle.layout.proofs.HeldRows.{rows-most}
use Rattle.edits.proofs.PackedChanges.{length-row, replaced-row}
use Rattle.ledger.proofs.EachRow.{row_inside, row-there, row_read}

-- slots that begin at the same bytes hold the same row
pub same_row : (b d : List ℕ) (i : ℕ) → drop (row_start i) b ≡ drop (row_start i) d → row_at b i ≡ row_at d i
same_row b d i e = row-in-slot b i ∙ ap (λ (rest : List ℕ). record_in row_record (take row_length rest)) e ∙ sym (row-in-slot d i)

-- a held row's slot is that of its row
pub row-packed : (b : List ℕ) (rows i : ℕ) → Searched b rows → i < rows → IsPacked row_record (row_part b i)
row-packed b rows i s h =
    let at : ℕ = row_start i in
    let x : Row = row_at b i in
    let same : replace_at at (record_bytes row_record x) b ≡ b =
    replaced-row (facts b) b _ (sym (repacked b s.formed)) i x (row-there b rows i s h) (rows-most present b s.formed) refl
    ∙ ap (λ (xs : List Row). bytes (ledger_with_rows (facts b) xs)) (rw (row_read b rows i s h x refl) (set-get_or (facts b).rows i x)) ∙ repacked b s.formed in
    ap (record_bytes row_record) (sym (row-in-slot b i))
    ∙ sym (replaced-part at (record_bytes row_record x) b (omega (arith, length-row x, formed-length b s.formed, row_inside b rows i s h)))
    ∙ ap₂ (λ (n : ℕ) (d : List ℕ). take n (drop at d)) (length-row x) same
