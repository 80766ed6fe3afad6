-- `load_eight` meets its contract: the bytes of the array are those of s.
use Rattle.std.proofs.Common.{rules}
use Rattle.fields.proofs.Words.{value_eight}
use Rattle.fields.proofs.word.load_eight.Goals as goal

pub returns : goal.returns
returns c = search (rules, value_eight)
