-- `insert` meets its contract: `and` clears the w bits, and `or` fills them with v.
use Rattle.std.proofs.Common.{rules}
use Rattle.fields.proofs.Words.{insert-law}
use Rattle.fields.proofs.word.insert.Goals as goal

pub returns : goal.returns
returns c = search (rules, insert-law)
