-- `is_open` reads the slot's first bit.
use Rattle.fields.specs.Fields.{fields}
use Rattle.records.specs.Pack.{unpack}
use Rattle.records.specs.OneSlot.{is_taken, slot_numbers}
use Rattle.codec.proofs.contracts.is_open.Goals as goal

pub returns : goal.returns
unfolding is_taken slot_numbers unpack fields
returns c = cc
