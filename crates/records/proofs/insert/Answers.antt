-- `insert` meets its contract: what stood from byte `at` on is copied up, and the new bytes are written over the gap.
use Rattle.std.proofs.Common.{rules}
use Rattle.records.proofs.Edits.{copied-insert}
use Rattle.records.proofs.insert.Goals as goal

pub returns : goal.returns
returns c = search (rules, copied-insert)
