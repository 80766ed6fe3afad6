-- `insert_row` packs the row into a slot and inserts the slot among those of the rows and the next one.
use mathlib.Core.Path.{ap, ◌∙◌}
use mathlib.Core.List.{List}
use Prim.Native.Nat.{ℕ, ◌+◌, ◌-◌, ◌*◌}
use native.Mathlib.Omega.{arith}
use borrow.Rule.Slice.PartMut.{mid_of}
use Rattle.records.specs.Edits.{insert_at}
use Rattle.records.proofs.Edits.{part-lent}
use Rattle.layout.specs.PresentLayout.{row_record}
use Rattle.layout.specs.Offsets.{first_row, row_start, row_length}
use Rattle.records.specs.OneSlot.{record_bytes}
use Rattle.edits.proofs.insert_row.Goals as goal

pub returns : goal.returns
returns c =
    let a = c.args in
    let end : ℕ = row_start (a.rows + 1) in
    part-lent first_row end (insert_at (a.i * row_length) (record_bytes row_record a.row)) a.b.now c.insert.new.b (omega arith)
    (c.insert.ensures ∙ ap (λ (x : List ℕ). insert_at (a.i * row_length) x (mid_of first_row (end - first_row) a.b.now)) c.packed_row.ensures)
