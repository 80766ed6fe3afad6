-- `shares_by_class` gives the kWh in each class of a bill with shares.
use Rattle.std.proofs.Common.{rules}
use Rattle.rates.specs.TermsTaken.{terms_for}
use Rattle.amounts.proofs.KwhFound.{kwh-shares}
use Rattle.amounts.proofs.RateableBill.shares_by_class.Goals as goal

pub returns : goal.returns
unfolding terms_for
returns c = search (rules, kwh-shares)
