-- `remove_row` removes the row's slot from among those of the rows.
use Prim.Native.Nat.{◌*◌}
use native.Mathlib.Omega.{arith}
use Rattle.records.specs.Edits.{remove_at}
use Rattle.records.proofs.Edits.{part-lent}
use Rattle.layout.specs.Offsets.{first_row, row_start, row_length}
use Rattle.edits.proofs.remove_row.Goals as goal

pub returns : goal.returns
returns c =
    let a = c.args in
    part-lent first_row (row_start a.rows) (remove_at (a.i * row_length) row_length) a.b.now c.remove.new.b (omega arith) c.remove.ensures
