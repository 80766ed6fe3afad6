-- `is_zero` meets its contract: `or` of all the bytes is zero exactly where each of them is.
use Rattle.std.proofs.Common.{rules}
use Rattle.records.proofs.Edits.{zero_where}
use Rattle.records.proofs.is_zero.Goals as goal

pub returns : goal.returns
returns c = search (rules, zero_where)
