-- The laws of the table of dates: its length, what one test shows of each day and the next, the dates at its packed entries.
use Prim.Native.Nat.{ℕ, suc, ◌≤◌, ◌<◌}
use mathlib.Core.Path.{◌≡◌, refl, sym, ap, ◌∙◌}
use mathlib.Core.Bool.{Bool, true}
use mathlib.Core.List.{map}
use native.Mathlib.Omega.{arith}
use lib.Dec.{leb}
use lib.ListN.{length, get_or-map}
use native.Mathlib.Numerals.{add-one}
use Rattle.std.proofs.lemmas.Bool.{leb-true}
use Rattle.std.proofs.lemmas.List.Sorted.{IsNonDecreasingBy-from_all_adjacent}
use Rattle.limits.specs.Limits.{day_count}
use Rattle.calendar.specs.declared.CalendarDate.{CalendarDate}
use Rattle.calendar.specs.declared.dates.TheConstants.{DATES}
use Rattle.calendar.specs.TableOfDates.{date_at}
use Rattle.calendar.specs.Days.{dates, date_of, no_date, packed, unpacked, packed_dates}
use Rattle.basics.proofs.Tables.{adjacent, adjacent-at}

-- the table has 852 entries
pub day-count : length dates ≡ day_count
unfolding dates
day-count = refl

-- what one test shows of the whole table holds of the dates of each day and the next
pub from-day-to-day :
    (test : CalendarDate → CalendarDate → Bool)
    → adjacent test dates ≡ true
    → (day : ℕ) → suc day < day_count → test (date_of day) (date_of (suc day)) ≡ true
unfolding date_of
from-day-to-day test passed day inside = adjacent-at no_date test dates passed day (omega (arith, day-count))

-- a number of the dates that is no less from each day to the next is no less from a day to any later one
pub rises :
    (number : CalendarDate → ℕ)
    → adjacent (λ a b. leb (number a) (number b)) dates ≡ true
    → (first last : ℕ) → first ≤ last → last < day_count → number (date_of first) ≤ number (date_of last)
unfolding date_of
rises number passed first last order inside =
    IsNonDecreasingBy-from_all_adjacent number dates
    (λ day none next. leb-true _ _ (rw add-one (adjacent-at none _ dates passed day (omega arith))))
    first last no_date order (omega (arith, day-count))

-- the date of each day comes back from its packed form
unpacked-packed : (day : ℕ) → unpacked (packed (date_of day)) ≡ date_of day
unfolding dates date_of
unpacked-packed day = sym (get_or-map (λ date. unpacked (packed date)) dates day no_date)

-- the date at each entry of the packed table is that of its day
pub date-at-entry : (day : ℕ) → date_at packed_dates day ≡ date_of day
unfolding date_of packed_dates
date-at-entry day = ap unpacked (get_or-map packed dates day no_date) ∙ unpacked-packed day

-- the code's entries stand for the dates of the table
pub code-dates : map unpacked DATES ≡ dates
unfolding dates
code-dates = refl
