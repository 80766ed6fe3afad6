-- `store` meets its contract: the low bytes of x come last.
use Rattle.std.proofs.Common.{rules}
use Rattle.fields.proofs.Words.{stored}
use Rattle.fields.proofs.word.store.Goals as goal

pub returns : goal.returns
returns c = search (rules, stored)
