-- `shares_day` looks at the first row that reaches the span's first day.
use Rattle.bill_refusals.proofs.Requests.{day-shared}
use Rattle.bill_refusals.proofs.shares_day.Goals as goal

pub returns : goal.returns
returns c = day-shared _ _ c.args.held.searched _ _ _ _ c.first_reaching-place.ensures _ c.shares_day.ensures
