-- `day` meets its contract: the search finds the first day that has the date, and where it finds none the date is turned down.
use Rattle.std.proofs.Common.{rules, tests, ◌≡◌, ap, ◌∙◌, true, false}
use Rattle.std.proofs.lemmas.Iterator.{first_from_Range}
use Rattle.calendar.specs.Calendar.{date_from}
use Rattle.calendar.specs.Answers.{in_table}
use Rattle.calendar.proofs.Conversions.{has_date, found-day, or-refused}
use Rattle.calendar.proofs.day.Goals as goal

pub returns : goal.returns
returns c =
    let date = date_from c.args.year c.args.month c.args.day in
    rw c.ok_or.ensures.value
    (or-refused c.find.result ∙ ap in_table
    (found-day c.args.year c.args.month c.args.day c.find.result
    (first_from_Range _ _ _ c.find.result (λ n. has_date date n ≡ true) (λ n. has_date date n ≡ false) c.find.ensures.ran
    (λ n q k. search (rules, tests))
    (λ n q k. search (rules, tests)))))
