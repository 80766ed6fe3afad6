-- `date_at` meets its contract: it reads the date of the table's entry.
use Rattle.std.proofs.Common.{rules}
use Rattle.calendar.specs.declared.dates.TheConstants.{DATES}
use Rattle.calendar.proofs.Days.{code-dates}
use Rattle.calendar.proofs.Conversions.{read-date}
use Rattle.calendar.proofs.date_at.Goals as goal

pub returns : goal.returns
returns c = read-date _ (λ entry date read. search rules) DATES code-dates c.args.day _ _ c.get.ensures.lookup c.map.ensures.cases
