-- `load` meets its contract: each byte is shifted in below those before it.
use Rattle.std.proofs.Common.{rules}
use Rattle.fields.proofs.Words.{loaded}
use Rattle.fields.proofs.word.load.Goals as goal

pub returns : goal.returns
returns c = search (rules, loaded)
