-- `difference` reads both numbers as signed, and their difference fits.
use Rattle.signed.proofs.SignedDifferences.{signed-difference, signed-difference-fits}
use Rattle.signed.proofs.difference.Goals as goal

pub overflow_sub-result : goal.overflow_sub-result
overflow_sub-result c = signed-difference-fits c.args.a c.args.b c.requires.0 c.requires.1

pub returns : goal.returns
returns c = signed-difference c.args.a c.args.b c.requires.0 c.requires.1
