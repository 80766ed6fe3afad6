-- The calendar: leap years, the number of days in a month, the day after a date. Assumes nothing.
use Rattle.std.specs.Prelude.{ℕ, ◌+◌, ◌%◌, Bool, cond, ◌&&◌, ◌||◌, eqb, ltb}
use Rattle.calendar.specs.declared.CalendarDate.{CalendarDate}

-- the date with this year, month and day
abbrev pub date_from : ℕ → ℕ → ℕ → CalendarDate
date_from year month day = record { year = year; month = month; day = day }

-- whether two dates are the same
abbrev pub same_date : CalendarDate → CalendarDate → Bool
same_date a b = eqb a.year b.year && (eqb a.month b.month && eqb a.day b.day)

-- a leap year: one that 4 divides, but one that 100 divides only where 400 does
abbrev pub leap_year : ℕ → Bool
leap_year year = cond (eqb (year % 100) 0) (eqb (year % 400) 0) (eqb (year % 4) 0)

-- the number of days in a month: February, then April, June, September and November, then the others
abbrev pub days_in_month : ℕ → ℕ → ℕ
days_in_month year month =
    cond (eqb month 2) (cond (leap_year year) 29 28)
    (cond (eqb month 4 || eqb month 6 || eqb month 9 || eqb month 11) 30 31)

-- the calendar day after a date: in the same month, else the first of the next month, else the first of the next year
abbrev pub next_date : CalendarDate → CalendarDate
next_date date =
    cond (ltb date.day (days_in_month date.year date.month))
    (date_from date.year date.month (date.day + 1))
    (cond (ltb date.month 12) (date_from date.year (date.month + 1) 1) (date_from (date.year + 1) 1 1))
