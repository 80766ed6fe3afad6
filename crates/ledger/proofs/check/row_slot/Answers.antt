-- `row_slot` reads a slot: it is free, or a bit of its zeros is set, or it holds a row.
use Rattle.ledger.proofs.RowTests.{slot-free, slot-bad, slot_held}
use Rattle.ledger.proofs.check.row_slot.Goals as goal

pub returns-then-not-is_held : goal.returns-then-not-is_held
returns-then-not-is_held c = search slot-free

pub returns-then-padding_set : goal.returns-then-padding_set
returns-then-padding_set c = search slot-bad

pub returns : goal.returns
returns c = search slot_held
