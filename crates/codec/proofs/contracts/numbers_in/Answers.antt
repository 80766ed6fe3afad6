-- `numbers_in` reads the numbers of the slot's record.
use Rattle.fields.specs.Fields.{fields}
use Rattle.records.specs.Pack.{unpack}
use Rattle.records.specs.OneSlot.{slot_numbers}
use Rattle.codec.proofs.contracts.numbers_in.Goals as goal

pub returns : goal.returns
unfolding slot_numbers unpack fields
returns c = cc
