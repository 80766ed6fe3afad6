-- `extract` meets its contract: the mask is w ones, and `and` with it is the remainder by 2 to the power of w.
use Rattle.std.proofs.lemmas.Nat.{one_shl, and_mask}
use Rattle.fields.proofs.word.extract.Goals as goal

pub returns : goal.returns
returns c = rw (one_shl c.args.w 64 c.requires.1) (and_mask _ c.args.w)
