-- `slot_ok` is the test of a slot: by its padding and its first bit.
use Rattle.records.proofs.SlotTests.{slot-tests}
use Rattle.codec.proofs.contracts.slot_ok.Goals as goal

pub returns-then-padding_set : goal.returns-then-padding_set
returns-then-padding_set c = search slot-tests

pub returns-then-is_open : goal.returns-then-is_open
returns-then-is_open c = search slot-tests

pub returns-else-is_open : goal.returns-else-is_open
returns-else-is_open c = search slot-tests
