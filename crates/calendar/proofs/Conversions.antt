-- The laws of the date at a place of the table, and of the first place of a date.
use Rattle.std.proofs.Common.{◌≡◌, refl, sym, ap, ◌∙◌, ℕ, ◌<◌, ◌≤◌, Bool, true, false, List, map, length, Option, None, Some, option_map, Bor, arith}
use Rattle.std.specs.Bool.{Decides}
use Rattle.std.specs.List.{slice_get, position_or_len}
use Rattle.std.specs.Option.{option_eq, ok_or, MatchOption, IsSomeAnd}
use Rattle.std.specs.Slice.{IsItemAt}
use Rattle.std.proofs.lemmas.Bool.{lt-ltb, le-ltb}
use Rattle.std.proofs.lemmas.Bool.Decides.{not_from_Decides}
use Rattle.std.proofs.lemmas.Grind.{common_steps}
use Rattle.std.proofs.lemmas.List.Sums.{position_or_len_is}
use Rattle.std.proofs.lemmas.Option.{slice_get-map, slice_get_past, slice_get-get_or, slice_get_within, get_or_from_slice_get, gets}
use Rattle.limits.specs.Limits.{day_count}
use Rattle.refusals.specs.declared.Refusal.{Refusal}
use Rattle.refusals.specs.Numbers.{by_number}
use Rattle.calendar.specs.declared.CalendarDate.{CalendarDate}
use Rattle.calendar.specs.Calendar.{date_from, same_date}
use Rattle.calendar.specs.Days.{dates, date_of, no_date, unpacked}
use Rattle.calendar.specs.Answers.{day_of_date, date_of_day, in_table}
use Rattle.calendar.proofs.SameDate.{same_decides, other-differs}
use Rattle.calendar.proofs.Days.{day-count}

-- ---- date

-- a day of the table has its date there
pub date-inside : (day : ℕ) → day < day_count → date_of_day day ≡ Some (date_of day)
unfolding date_of_day date_of
date-inside day inside = slice_get-get_or dates day no_date (omega (arith, day-count))

-- a later day has none
pub date-late : (day : ℕ) → (day < day_count → ⊥) → date_of_day day ≡ None
unfolding date_of_day
date-late day late = slice_get_past dates day (omega (arith, day-count))

-- the date that is answered is that of a day of the table
pub date-answered : (day : ℕ) (date : CalendarDate) → date_of_day day ≡ Some date → (day < day_count) × (date_of day ≡ date)
unfolding date_of_day date_of
date-answered day date is =
    let within = slice_get_within dates day date is in
    (omega (arith, within, day-count), get_or_from_slice_get dates day date no_date is)

-- `Read` is what the code knows of the date that it reads of an entry, and that is the date that the entry stands for
module _ (Read : Bor ℕ → CalendarDate → Type 0) (stands : (entry : Bor ℕ) (date : CalendarDate) → Read entry date → date ≡ unpacked entry.now) where
  -- what is read of the entry at a place, which a table may have
  read-entry :
      (table : List ℕ) (place : ℕ) (entry : Option (Bor ℕ)) (date : Option CalendarDate)
      → IsItemAt table place entry
      → MatchOption entry (date ≡ None) (λ e. IsSomeAnd date (Read e))
      → date ≡ option_map unpacked (slice_get table place)
  read-entry table place None date at none = rw (none, slice_get_past table place at.3)
  read-entry table place (Some e) None at read = absurd read
  read-entry table place (Some e) (Some d) at read = let same = stands e d read in grind (arith, common_steps, gets)

  -- so it is what the table has there, where the table's entries stand for the dates
  pub read-date :
      (table : List ℕ) → map unpacked table ≡ dates
      → (day : ℕ) (entry : Option (Bor ℕ)) (date : Option CalendarDate)
      → IsItemAt table day entry
      → MatchOption entry (date ≡ None) (λ e. IsSomeAnd date (Read e))
      → date ≡ date_of_day day
  unfolding date_of_day
  read-date table stand day entry date at read =
      read-entry table day entry date at read
      ∙ sym (slice_get-map unpacked table day)
      ∙ ap (λ (entries : List CalendarDate). slice_get entries day) stand

-- ---- day

-- what the table hasn't is turned down by number 7
pub or-refused : {A : Type 0} (x : Option A) → by_number (ok_or x Refusal.BadDay) ≡ in_table x
or-refused None = refl
or-refused (Some a) = refl

-- whether a day has a date, as the code tests it
abbrev pub has_date : CalendarDate → ℕ → Bool
has_date date day = option_eq same_date (date_of_day day) (Some date)

has_date-decides : (date : CalendarDate) (day : ℕ) → day < day_count → Decides (has_date date day) (date_of day ≡ date)
has_date-decides date day inside = rw (date-inside day inside) (same_decides (date_of day) date)

module _ (year month day : ℕ) where
  abbrev date : CalendarDate
  date = date_from year month day

  -- the first place of the date, or the length of the table where it stands nowhere
  first-place :
      (place : ℕ) → place ≤ day_count
      → ((n : ℕ) → n < place → date_of n ≡ date → ⊥)
      → (place < day_count → date_of place ≡ date)
      → position_or_len (λ entry. same_date entry date) dates ≡ place
  unfolding date_of
  first-place place within before there =
      position_or_len_is _ dates place no_date (omega (arith, day-count))
      (λ n earlier. other-differs _ _ (before n earlier))
      (λ inside. (same_decides _ _).1 (there (omega (arith, day-count))))

  -- the first day that has the date is answered
  pub day-first :
      (n : ℕ) → n < day_count
      → ((i : ℕ) → i < n → date_of i ≡ date → ⊥)
      → date_of n ≡ date
      → day_of_date year month day ≡ Some n
  unfolding day_of_date
  day-first n inside before there =
      rw (first-place n (omega arith) before (λ _. there), lt-ltb n (length dates) (omega (arith, day-count)))

  -- where no day has the date, none is
  pub day-nowhere : ((n : ℕ) → n < day_count → date_of n ≡ date → ⊥) → day_of_date year month day ≡ None
  unfolding day_of_date
  day-nowhere none =
      rw (first-place day_count (omega arith) none (λ inside. absurd (omega arith)), le-ltb day_count (length dates) (omega (arith, day-count)))

  -- what a search through the days found is the first place of the date
  pub found-day :
      (number : Option ℕ)
      → MatchOption number
      ((n : ℕ) → 0 ≤ n → n < day_count → has_date date n ≡ false)
      (λ first. (0 ≤ first) × (first < day_count) × (has_date date first ≡ true) × ((n : ℕ) → 0 ≤ n → n < first → has_date date n ≡ false))
      → number ≡ day_of_date year month day
  found-day None none = sym (day-nowhere (λ n inside. not_from_Decides _ (has_date-decides date n inside) (none n (omega arith) inside)))
  found-day (Some first) found =
      sym (day-first first found.1
      (λ n earlier. not_from_Decides _ (has_date-decides date n (omega arith)) (found.3 n (omega arith) earlier))
      ((has_date-decides date first found.1).0 found.2))
