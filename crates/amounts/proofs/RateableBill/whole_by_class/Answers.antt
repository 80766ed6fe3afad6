-- `whole_by_class` gives the kWh in each class of a bill without shares: by the certificate.
use Rattle.std.proofs.Common.{rules}
use Rattle.rates.specs.TermsTaken.{terms_for}
use Rattle.amounts.proofs.KwhFound.{kwh-none, kwh-etii, kwh-qhs}
use Rattle.amounts.proofs.RateableBill.whole_by_class.Goals as goal

pub returns-in-None : goal.returns-in-None
unfolding terms_for
returns-in-None c = search (rules, kwh-none)

pub returns-in-Etii : goal.returns-in-Etii
unfolding terms_for
returns-in-Etii c = search (rules, kwh-etii)

pub returns-in-Qhs : goal.returns-in-Qhs
unfolding terms_for
returns-in-Qhs c = search (rules, kwh-qhs)
