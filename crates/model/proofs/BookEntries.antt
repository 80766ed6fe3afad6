-- The entries of the book are those of the table, by computation. Assumes nothing.
use mathlib.Core.Path.{refl}
use Rattle.calendar.specs.Days.{dates, date_of, scheme_month}
use Rattle.model.specs.Book.{reference}
use Rattle.model.specs.BookEntries.{book_entries, month_entries, priced_at, found, EntriesFound}

pub entries_found : EntriesFound
unfolding book_entries month_entries priced_at found reference scheme_month date_of dates
entries_found = record { kinds = refl; months = refl }
