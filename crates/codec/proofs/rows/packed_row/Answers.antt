-- `packed_row` sets all the numbers of the slot.
use Rattle.records.specs.Pack.{size}
use Rattle.layout.specs.PresentLayout.{row_record}
use Rattle.records.proofs.WrittenSlots.{slot-writable, slot-written}
use Rattle.codec.proofs.WholeSlots.{row-widths}
use Rattle.codec.proofs.rows.packed_row.Goals as goal

pub put_all-requires : goal.put_all-requires
unfolding size
put_all-requires c = search (slot-writable row_record row-widths)

pub returns : goal.returns
unfolding size
returns c = search (slot-written row_record row-widths)
