-- `at_rates` is the amount: the kWh in each class at its rate are what the bill comes to at the rates.
use Rattle.amounts.proofs.KwhFound.{at-the-rates}
use Rattle.amounts.proofs.RateableBill.at_rates.Goals as goal

pub returns : goal.returns
returns c = cc (at-the-rates _ _ _ c.requires)
