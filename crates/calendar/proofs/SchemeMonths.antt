-- The scheme month of a later day is no earlier one; and that of a day is that of the date at its place of the table.
use Rattle.std.proofs.Common.{◌≡◌, refl, sym, ap, ◌∙◌, ℕ, ◌+◌, ◌*◌, ◌≤◌, ◌<◌, Option, Some, arith}
use Rattle.std.specs.Option.{unwrap_or}
use Rattle.std.proofs.lemmas.Option.{unwrap_or-slice_get}
use Rattle.limits.specs.Limits.{day_count}
use Rattle.calendar.specs.declared.CalendarDate.{CalendarDate}
use Rattle.calendar.specs.Days.{dates, date_of, no_date, scheme_month, scheme_month_of}
use Rattle.calendar.specs.Answers.{date_of_day}
use Rattle.calendar.proofs.Conversions.{date-answered}
use Rattle.calendar.proofs.Days.{rises}

-- ---- the order of days

-- antt computes the test over the whole table
later-month : (first last : ℕ) → first ≤ last → last < day_count → scheme_month first ≤ scheme_month last
unfolding scheme_month dates
later-month = rises scheme_month_of refl

-- the days between two of one scheme month are of that month
pub month-between : (first day last : ℕ) → first ≤ day → day ≤ last → last < day_count → scheme_month first ≡ scheme_month last → scheme_month day ≡ scheme_month first
month-between first day last h k inside e =
    omega (arith, e, later-month first day h (omega arith), later-month day last k inside)

-- ---- the scheme month of the date at a place of the table

-- it is the date's, and 0 where there is none
pub of-answer : (day : ℕ) (answer : Option CalendarDate) → answer ≡ date_of_day day → scheme_month_of (unwrap_or answer no_date) ≡ scheme_month day
unfolding date_of_day scheme_month date_of
of-answer day answer is =
    ap (λ (a : Option CalendarDate). scheme_month_of (unwrap_or a no_date)) is ∙ ap scheme_month_of (unwrap_or-slice_get dates day no_date)

last-day : scheme_month 851 ≡ 11
unfolding scheme_month date_of dates
last-day = refl

-- no date's month comes after March 2024
pub last-month : (day : ℕ) (date : CalendarDate) → Some date ≡ date_of_day day → 12 * date.year + date.month ≤ 12 * 2024 + 3
last-month day date is =
    let inside : day < day_count = (date-answered day date (sym is)).0 in
    omega (arith, last-day, later-month day 851 (omega arith) (omega arith), of-answer day (Some date) is)
