-- What is written is the transcript of what was read, and so of the input.
use Rattle.std.proofs.Common.{rules}
use Rattle.ebds.proofs.Runs.{PrintsTranscript-read}
use Rattle.ebds.proofs.run.Goals as goal

pub returns : goal.returns
returns g c = search (rules, PrintsTranscript-read)
