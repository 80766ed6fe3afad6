-- The limits of days, prices, kWh, contracts, rows and claims, each once in the statements. Assumes nothing.
use Rattle.std.specs.Prelude.{ℕ, ◌+◌}

-- "A day number counts from 1 December 2021 = 0 to 31 March 2024 = 851"; so there are 852
abbrev pub last_day : ℕ
last_day = 851

abbrev pub day_count : ℕ
day_count = last_day + 1

-- "486 ≤ first ≤ last"; an effective day is "486 to 851 (511 to 851 for QHS ..)"
abbrev pub first_scheme_day : ℕ
first_scheme_day = 486

abbrev pub first_qhs_day : ℕ
first_qhs_day = 511

-- "The new minimum applies when the bill's first day is 792 or later"
abbrev pub new_minimum_day : ℕ
new_minimum_day = 792

-- the highest price in mils: of R, S, a WAP and a book's entry
abbrev pub highest_price : ℕ
highest_price = 999999

-- of paper 6, "Bill and rebill now take at most 40,000,000"
abbrev pub most_kwh_given : ℕ
most_kwh_given = 40000000

-- of paper 6, "A stored row up to 100,000,000 is still well formed"
abbrev pub most_kwh_stored : ℕ
most_kwh_stored = 100000000

-- "a lent list of 1,740 prices"
abbrev pub book_length : ℕ
book_length = 1740

-- "64 contracts", numbered from 0
abbrev pub contract_count : ℕ
contract_count = 64

-- "1,024 rows"
abbrev pub row_count : ℕ
row_count = 1024

-- "1,000 claims were made already"
abbrev pub most_claims : ℕ
most_claims = 1000

-- a tick is a ten-thousandth of a penny
abbrev pub ticks_per_penny : ℕ
ticks_per_penny = 10000

-- a stored day has 10 bits: contract × 1,024 + day is in order of contract, then day
abbrev pub day_values : ℕ
day_values = 1024
