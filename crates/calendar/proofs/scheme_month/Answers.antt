-- `scheme_month` meets its contract: it is that of the day's date. The months of dates in the table keep the sums in range, of whatever day.
use Rattle.std.proofs.Common.{◌∙◌, arith}
use Rattle.calendar.proofs.SchemeMonths.{of-answer, last-month}
use Rattle.calendar.proofs.scheme_month.Goals as goal

pub overflow_mul-date : goal.overflow_mul-date
overflow_mul-date c = omega (arith, last-month _ c.in-Some.date c.in-Some.ensures)

pub overflow_add-date : goal.overflow_add-date
overflow_add-date c = omega (arith, last-month _ c.in-Some.date c.in-Some.ensures)

pub returns-in-Some : goal.returns-in-Some
returns-in-Some c = c.saturating_sub.ensures ∙ of-answer c.args.day _ c.in-Some.ensures

pub returns-in-None : goal.returns-in-None
returns-in-None c = of-answer c.args.day _ c.in-None.ensures
