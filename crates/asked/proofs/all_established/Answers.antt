-- All that is established, by the value that gives it.
use Rattle.asked.proofs.Asked.{asked}
use Rattle.asked.proofs.all_established.Goals as goal

pub returns : goal.returns
returns c = asked
