-- `padding_set` reads the zeros.
use Rattle.fields.specs.Fields.{fields}
use Rattle.records.specs.Pack.{unpack}
use Rattle.records.specs.OneSlot.{slot_numbers}
use Rattle.records.proofs.SlotTests.{zeros-set}
use Rattle.codec.proofs.rows.padding_set.Goals as goal

pub returns : goal.returns
unfolding slot_numbers unpack fields
returns c = search zeros-set
