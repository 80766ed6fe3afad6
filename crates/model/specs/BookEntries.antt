-- Document 01, "Contracts and the price book": the first and the last entry of each fuel and kind, and each month's, where its price is found.
-- Assumes nothing.
use Rattle.std.specs.Prelude.{◌≡◌, List, [], ◌∷◌, ◌++◌, map, ℕ, ◌-◌, replicate}
use Rattle.rates.specs.declared.Fuel.{Fuel}
use Rattle.rates.specs.declared.Fuel.TheVariants.{Electricity, Gas}
use Rattle.rates.specs.declared.Kind.{Kind}
use Rattle.rates.specs.declared.Kind.TheVariants.{Fixed, Variable, Index}
use Rattle.rates.specs.declared.Certificate.TheVariants.{None}
use Rattle.model.specs.Book.{reference}

-- a row of the table: a contract's fuel and kind, a bill's first day, and the entry of the book
pub record BookEntry : Type 0 where
  pub fuel : Fuel
  pub kind : Kind
  pub first : ℕ
  pub entry : ℕ

abbrev pub book_entry : Fuel → Kind → (first entry : ℕ) → BookEntry
book_entry fuel kind first entry = record { fuel = fuel; kind = kind; first = first; entry = entry }

-- "Fixed: entry fuel × 852 + price-fix day. Variable: 1,704 + fuel × 12 + month. Index: 1,728 + month": of the price-fix days 0 and 851,
-- and of bills that begin in April 2023 and in March 2024
unfoldable pub book_entries : List BookEntry
book_entries =
    book_entry Electricity (Fixed 0 0) 486 0
    ∷ book_entry Electricity (Fixed 851 0) 486 851
    ∷ book_entry Gas (Fixed 0 0) 486 852
    ∷ book_entry Gas (Fixed 851 0) 486 1703
    ∷ book_entry Electricity Variable 486 1704
    ∷ book_entry Electricity Variable 851 1715
    ∷ book_entry Gas Variable 486 1716
    ∷ book_entry Gas Variable 851 1727
    ∷ book_entry Electricity Index 486 1728
    ∷ book_entry Electricity Index 851 1739
    ∷ []

-- a month of the scheme: the entry of bills of variable gas that begin on its first and on its last day
abbrev pub month_entry : (first last entry : ℕ) → List BookEntry
month_entry first last entry = book_entry Gas Variable first entry ∷ book_entry Gas Variable last entry ∷ []

-- April 2023 to March 2024
unfoldable pub month_entries : List BookEntry
month_entries =
    month_entry 486 515 1716
    ++ month_entry 516 546 1717
    ++ month_entry 547 576 1718
    ++ month_entry 577 607 1719
    ++ month_entry 608 638 1720
    ++ month_entry 639 668 1721
    ++ month_entry 669 699 1722
    ++ month_entry 700 729 1723
    ++ month_entry 730 760 1724
    ++ month_entry 761 791 1725
    ++ month_entry 792 820 1726
    ++ month_entry 821 851 1727

-- a book of 1,740 entries in which this one alone has a price, of 1 mil
unfoldable pub priced_at : (entry : ℕ) → List ℕ
priced_at entry = replicate entry 0 ++ (1 ∷ replicate (1739 - entry) 0)

-- R of a bill with such terms, by the book in which the row's entry alone has a price
unfoldable pub found : BookEntry → ℕ
found e = reference (record { fuel = e.fuel; kind = e.kind; certificate = None }) e.first 0 (priced_at e.entry)

-- each is found
pub record EntriesFound : Type 0 where
  pub kinds : map found book_entries ≡ map (λ _. 1) book_entries
  pub months : map found month_entries ≡ map (λ _. 1) month_entries
