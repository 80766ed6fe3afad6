-- `replace` meets its contract: the part is lent and written whole.
use Rattle.std.proofs.Common.{rules}
use Rattle.records.proofs.Replaced.{part-written}
use Rattle.records.proofs.replace.Goals as goal

pub returns : goal.returns
returns c = search (rules, part-written)
