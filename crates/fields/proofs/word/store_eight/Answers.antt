-- `store_eight` meets its contract: the bytes of the word with its bytes in reverse order, the least significant first, are those of x.
use Rattle.std.proofs.Common.{rules}
use Rattle.fields.proofs.Words.{stored_eight}
use Rattle.fields.proofs.word.store_eight.Goals as goal

pub returns : goal.returns
returns c = search (rules, stored_eight)
