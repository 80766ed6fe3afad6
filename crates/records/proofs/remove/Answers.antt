-- `remove` meets its contract: what stood after the bytes is copied down, and as many bytes at the end are cleared.
use Rattle.std.proofs.Common.{rules}
use Rattle.records.proofs.Edits.{copied-remove}
use Rattle.records.proofs.remove.Goals as goal

pub returns : goal.returns
returns c = search (rules, copied-remove)
