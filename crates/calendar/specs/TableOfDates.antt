-- Document 01, "Days": what is established of the table of dates, and of `day` and `date`, which read it. Assumes nothing.
use Rattle.std.specs.Prelude.{◌≡◌, Ok, Err, List, [], ◌∷◌, map, ◌↔◌, ℕ, suc, ◌<◌, length, get_or}
use Rattle.calendar.specs.declared.CalendarDate.{CalendarDate}
use Rattle.calendar.specs.declared.dates.TheConstants.{DATES}
use Rattle.calendar.specs.Calendar.{date_from, next_date}
use Rattle.calendar.specs.Days.{date_of, unpacked, packed_dates}
use Rattle.calendar.specs.Answers.{day_answer, date_answer}

-- the date at an entry of a packed table
abbrev pub date_at : List ℕ → ℕ → CalendarDate
date_at table day = unpacked (get_or table day 0)

-- the table of packed dates, which the code has as a constant
pub record TableOfDates : Type 0 where
  -- the code's constant is this table
  pub constant : DATES ≡ packed_dates
  -- "A table of 852 entries"
  pub entries : length packed_dates ≡ 852
  -- "every entry is the calendar day after the one before it"
  pub successor : (day : ℕ) → suc day < 852 → date_at packed_dates (suc day) ≡ next_date (date_at packed_dates day)
  -- 1 December 2021 = 0, 1 April 2023 = 486, 26 April 2023 = 511, 1 February 2024 = 792, 29 February 2024 = 820, 31 March 2024 = 851
  pub landmarks :
      map (date_at packed_dates) (0 ∷ 486 ∷ 511 ∷ 792 ∷ 820 ∷ 851 ∷ [])
      ≡ date_from 2021 12 1 ∷ date_from 2023 4 1 ∷ date_from 2023 4 26
      ∷ date_from 2024 2 1 ∷ date_from 2024 2 29 ∷ date_from 2024 3 31 ∷ []

-- day and date: each is the inverse of the other, and each turns down, by number 7, exactly what isn't in the table
pub record DayAndDateInverse : Type 0 where
  pub inverse : (year month day number : ℕ)
      → (day_answer year month day ≡ Ok number) ↔ (date_answer number ≡ Ok (date_from year month day))
  pub day_refused : (year month day : ℕ)
      → (day_answer year month day ≡ Err 7) ↔ ((number : ℕ) → number < 852 → date_of number ≡ date_from year month day → ⊥)
  pub date_refused : (number : ℕ) → (date_answer number ≡ Err 7) ↔ (number < 852 → ⊥)
