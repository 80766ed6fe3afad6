-- What is established of the table of dates: its entries, the successor rule, the landmarks. Assumes nothing.
use Prim.Native.Nat.{ℕ, suc, ◌<◌}
use mathlib.Core.Path.{◌≡◌, refl, sym, ap, ◌∙◌}
use mathlib.Core.Bool.{Bool, true}
use Rattle.limits.specs.Limits.{day_count}
use Rattle.calendar.specs.declared.CalendarDate.{CalendarDate}
use Rattle.calendar.specs.Calendar.{same_date, next_date}
use Rattle.calendar.specs.Days.{dates, date_of, packed_dates}
use Rattle.calendar.specs.TableOfDates.{date_at, TableOfDates}
use Rattle.calendar.proofs.SameDate.{same_decides}
use Rattle.calendar.proofs.Days.{from-day-to-day, date-at-entry}
use Rattle.basics.proofs.Tables.{adjacent}

-- whether a date is the calendar day after another
follows : CalendarDate → CalendarDate → Bool
follows earlier later = same_date later (next_date earlier)

-- the test over the whole table, which antt computes
each-follows : adjacent follows dates ≡ true
unfolding dates follows
each-follows = refl

-- the successor rule: the date of each day is the calendar day after the date of the day before
next-date : (day : ℕ) → suc day < day_count → date_of (suc day) ≡ next_date (date_of day)
unfolding follows
next-date day inside = (same_decides _ _).0 (from-day-to-day follows each-follows day inside)

-- the successor rule of the packed entries
successor : (day : ℕ) → suc day < day_count → date_at packed_dates (suc day) ≡ next_date (date_at packed_dates day)
successor day inside = date-at-entry (suc day) ∙ next-date day inside ∙ ap next_date (sym (date-at-entry day))

pub table_of_dates : TableOfDates
unfolding dates packed_dates
table_of_dates = record { constant = refl; entries = refl; successor = successor; landmarks = refl }
