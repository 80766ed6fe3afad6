-- `unpack_row` makes the row of the slot's numbers.
use Rattle.fields.specs.Fields.{fields}
use Rattle.records.specs.Pack.{unpack}
use Rattle.records.specs.OneSlot.{record_in, slot_numbers}
use Rattle.codec.proofs.rows.unpack_row.Goals as goal

pub returns : goal.returns
unfolding record_in slot_numbers unpack fields
returns c = cc
