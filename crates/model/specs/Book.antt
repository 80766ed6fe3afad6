-- Document 01, "Contracts and the price book": where the reference price R of a bill is found, by the terms that it takes. Assumes nothing.
use Rattle.std.specs.Prelude.{List, ℕ, ◌+◌, ◌*◌, get_or}
use Rattle.limits.specs.Limits.{day_count}
use Rattle.calendar.specs.Days.{scheme_month}
use Rattle.rates.specs.declared.Fuel.{Fuel}
use Rattle.rates.specs.declared.Kind.{Kind}
use Rattle.rates.specs.declared.Kind.TheVariants.{Fixed, Variable, Flexible, Index}
use Rattle.rates.specs.declared.Terms.{Terms}
use Rattle.model.specs.Codes.{fuel_code}

-- the months of the scheme
abbrev pub month_count : ℕ
month_count = 12

-- 1,704 and 1,728: the first entries of variable and of index prices, after those of both fuels
abbrev pub first_variable_entry : ℕ
first_variable_entry = 2 * day_count

abbrev pub first_index_entry : ℕ
first_index_entry = first_variable_entry + 2 * month_count

-- the book has 1,740 prices in mils, 0 meaning not published.
-- Fixed: entry fuel × 852 + price-fix day. Variable: 1,704 + fuel × 12 + month. Index: 1,728 + month. The month is that of the first day
abbrev pub book_index : Fuel → Kind → (first : ℕ) → ℕ
book_index fuel (Fixed fix entry) first = fuel_code fuel * day_count + fix
book_index fuel Variable first = first_variable_entry + fuel_code fuel * month_count + scheme_month first
book_index fuel Flexible first = 0
book_index fuel Index first = first_index_entry + scheme_month first

-- R: of a flexible contract the weighted price (WAP) given with the bill, else the book's price
abbrev pub reference_of : Kind → (wap published : ℕ) → ℕ
reference_of (Fixed fix entry) wap published = published
reference_of Variable wap published = published
reference_of Flexible wap published = wap
reference_of Index wap published = published

unfoldable pub reference : Terms → (first wap : ℕ) → (book : List ℕ) → ℕ
reference terms first wap book = reference_of terms.kind wap (get_or book (book_index terms.fuel terms.kind first) 0)
