-- Document 01, "Days": the table of dates, the date of a day number, packed dates, the scheme month of a day. Assumes nothing.
use Rattle.std.specs.Prelude.{ℕ, zero, suc, ◌+◌, ◌*◌, ◌-◌, ◌/◌, ◌%◌, List, [], ◌∷◌, ◌++◌, map, get_or}
use Rattle.calendar.specs.declared.CalendarDate.{CalendarDate}
use Rattle.calendar.specs.Calendar.{date_from, days_in_month}

-- the first dates of a month, as many as given
abbrev pub first_dates : ℕ → ℕ → ℕ → List CalendarDate
first_dates year month zero = []
first_dates year month (suc count) = first_dates year month count ++ (date_from year month (suc count) ∷ [])

-- all dates of a month
abbrev pub dates_of_month : ℕ → ℕ → List CalendarDate
dates_of_month year month = first_dates year month (days_in_month year month)

-- the dates of the first months of a year, as many as given
abbrev pub dates_of_months : ℕ → ℕ → List CalendarDate
dates_of_months year zero = []
dates_of_months year (suc count) = dates_of_months year count ++ dates_of_month year (suc count)

-- the table, which gives year, month and day for each day number: the dates from 1 December 2021 to 31 March 2024
unfoldable pub dates : List CalendarDate
dates = dates_of_month 2021 12 ++ dates_of_months 2022 12 ++ dates_of_months 2023 12 ++ dates_of_months 2024 3

-- what stands past the end of the table: no date of the calendar
abbrev pub no_date : CalendarDate
no_date = date_from 2000 0 0

-- the date of a day number
unfoldable pub date_of : ℕ → CalendarDate
date_of day = get_or dates day no_date

-- a date packed into 16 bits: the years after 2000, four bits for the month, five bits for the day
abbrev pub packed : CalendarDate → ℕ
packed date = ((date.year - 2000) * 16 + date.month) * 32 + date.day

-- the date that a packed date stands for
abbrev pub unpacked : ℕ → CalendarDate
unpacked number = date_from (2000 + number / 512) (number / 32 % 16) (number % 32)

-- the table as it is packed
unfoldable pub packed_dates : List ℕ
packed_dates = map packed dates

-- the scheme month of a date: the months since April 2023, and 0 before it
abbrev pub scheme_month_of : CalendarDate → ℕ
scheme_month_of date = 12 * date.year + date.month - (12 * 2023 + 4)

-- the scheme month of a day
unfoldable pub scheme_month : ℕ → ℕ
scheme_month day = scheme_month_of (date_of day)
