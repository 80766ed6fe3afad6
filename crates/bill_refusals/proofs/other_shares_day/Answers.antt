-- `other_shares_day` looks at the row after the one named.
use Rattle.bill_refusals.proofs.Requests.{other-shared}
use Rattle.bill_refusals.proofs.other_shares_day.Goals as goal

pub returns : goal.returns
returns c = other-shared _ _ _ _ _ _ c.requires _ c.shares_day.ensures
