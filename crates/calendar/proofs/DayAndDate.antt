-- `day` and `date` are inverse to each other, and each turns down exactly what isn't in the table. Assumes nothing.
use Rattle.std.proofs.Common.{◌≡◌, refl, sym, ap, ◌∙◌, ℕ, suc, ◌<◌, Bool, true, Option, None, Some, Ok, Err, ltb, arith}
use Rattle.std.proofs.lemmas.Bool.{ltb-true}
use Rattle.std.proofs.lemmas.List.Quantifiers.{position-Some}
use Rattle.limits.specs.Limits.{day_count}
use Rattle.calendar.specs.declared.CalendarDate.{CalendarDate}
use Rattle.calendar.specs.Calendar.{date_from, same_date}
use Rattle.calendar.specs.Days.{dates, date_of, no_date, packed}
use Rattle.calendar.specs.Answers.{day_of_date, in_table}
use Rattle.calendar.specs.TableOfDates.{DayAndDateInverse}
use Rattle.calendar.proofs.SameDate.{same_decides}
use Rattle.calendar.proofs.Conversions.{date-inside, date-late, date-answered, day-first, day-nowhere}
use Rattle.calendar.proofs.Days.{day-count, from-day-to-day, rises}
use Rattle.basics.proofs.Tables.{adjacent}

-- ---- no two days have one date

earlier : CalendarDate → CalendarDate → Bool
earlier a b = ltb (packed a) (packed b)

-- the test over the whole table, which antt computes
each-earlier : adjacent earlier dates ≡ true
unfolding dates earlier
each-earlier = refl

next-later : (day : ℕ) → suc day < day_count → packed (date_of day) < packed (date_of (suc day))
unfolding earlier
next-later day inside = ltb-true _ _ (from-day-to-day earlier each-earlier day inside)

other-date : (i n : ℕ) → i < n → n < day_count → date_of i ≡ date_of n → ⊥
unfolding dates
other-date i n before inside same =
    let packed-same : packed (date_of i) ≡ packed (date_of n) = ap packed same in
    omega (arith, next-later i (omega arith), rises packed refl (suc i) n (omega arith) inside)

-- ---- day

module _ (year month day : ℕ) where
  abbrev date : CalendarDate
  date = date_from year month day

  -- the day that is answered has the date
  day-has-date : (n : ℕ) → day_of_date year month day ≡ Some n → (n < day_count) × (date_of n ≡ date)
  unfolding day_of_date date_of
  day-has-date n is =
      let found = position-Some (λ entry. same_date entry date) dates n no_date is in
      (omega (arith, found.0, day-count), (same_decides _ _).0 found.1)

  -- a day that has the date is answered
  date-has-day : (n : ℕ) → n < day_count → date_of n ≡ date → day_of_date year month day ≡ Some n
  date-has-day n inside same =
      day-first year month day n inside (λ i before equal. other-date i n before inside (equal ∙ sym same)) same

-- ---- both

-- an answer of the table is what the table has, and a refusal that it has nothing
had : {A : Type 0} (x : Option A) (a : A) → in_table x ≡ Ok a → x ≡ Some a
had None a is = cc
had (Some b) a is = cc

had-none : {A : Type 0} (x : Option A) (n : ℕ) → in_table x ≡ Err n → x ≡ None
had-none None n is = refl
had-none (Some b) n is = cc

pub day_and_date_inverse : DayAndDateInverse
day_and_date_inverse = record {
  inverse = λ year month day n. (
    (λ is. let found = day-has-date year month day n (had _ n is) in ap in_table (date-inside n found.0 ∙ ap Some found.1)),
    (λ is. let has = date-answered n (date_from year month day) (had _ _ is) in ap in_table (date-has-day year month day n has.0 has.1)),
  );
  day_refused = λ year month day. (
    (λ refused n inside same. let none = had-none _ 7 refused in let is = date-has-day year month day n inside same in cc),
    (λ none. ap in_table (day-nowhere year month day none)),
  );
  date_refused = λ n. ((λ refused inside. let none = had-none _ 7 refused in let is = date-inside n inside in cc), (λ late. ap in_table (date-late n late)));
}
