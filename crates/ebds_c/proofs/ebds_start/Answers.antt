-- What `start` answers fits.
use Rattle.calls.proofs.AnswersFit.{start_fits, same-fits}
use Rattle.ebds_c.proofs.ebds_start.Goals as goal

pub reply_of-requires : goal.reply_of-requires
reply_of-requires c = same-fits c.start.result c.start.ensures.0 (start_fits _ _)
