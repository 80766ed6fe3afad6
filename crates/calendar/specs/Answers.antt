-- Document 01, "Calls": day and date. What they answer, refusals included, and the paper's number and values for each case. Assumes nothing.
use Rattle.std.specs.Prelude.{ℕ, Option, None, Some, Result, Ok, Err, List, [], ◌∷◌, ℤ, pos}
use Rattle.std.specs.List.{position, slice_get}
use Rattle.calendar.specs.declared.CalendarDate.{CalendarDate}
use Rattle.calendar.specs.Calendar.{date_from, same_date}
use Rattle.calendar.specs.Days.{dates}

-- ---- what the table holds

-- the first place of a date in the table; None where it has none
unfoldable pub day_of_date : ℕ → ℕ → ℕ → Option ℕ
day_of_date year month day = position (λ entry. same_date entry (date_from year month day)) dates

-- the date at a place of the table; None above the last day
unfoldable pub date_of_day : ℕ → Option CalendarDate
date_of_day day = slice_get dates day

-- ---- the answers, a refusal by its number

-- number 7: a day is wrong
abbrev pub wrong_day : ℕ
wrong_day = 7

-- turned down by number 7 where the table has none
abbrev pub in_table : {A : Type 0} → Option A → Result A ℕ
in_table None = Err wrong_day
in_table (Some answer) = Ok answer

-- day (year, month, day)
abbrev pub day_answer : ℕ → ℕ → ℕ → Result ℕ ℕ
day_answer year month day = in_table (day_of_date year month day)

-- date (day number)
abbrev pub date_answer : ℕ → Result CalendarDate ℕ
date_answer day = in_table (date_of_day day)

-- ---- the values of an answer: a refusal has none

abbrev pub values_of_day : Result ℕ ℕ → List ℤ
values_of_day (Err n) = []
values_of_day (Ok day) = pos day ∷ []

abbrev pub values_of_date : Result CalendarDate ℕ → List ℤ
values_of_date (Err n) = []
values_of_date (Ok date) = pos date.year ∷ pos date.month ∷ pos date.day ∷ []
