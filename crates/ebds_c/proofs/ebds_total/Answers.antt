-- What `total` answers fits.
use Rattle.ebds_c.proofs.Given.{answered-fits}
use Rattle.ebds_c.proofs.ebds_total.Goals as goal

pub reply_of-requires : goal.reply_of-requires
reply_of-requires c = answered-fits _ _ _ _ c.total.ensures
