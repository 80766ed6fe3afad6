-- Document 01, "Turned down, in checking order", with numbers 14 of paper 1, 15 of paper 2 and 16 to 18 of paper 5, and paper 6's limit of number 8: calls on
-- either side of the limits, with the number that turns each down, 0 where none does. Assumes nothing.
use Rattle.std.specs.Prelude.{◌≡◌, Bool, true, List, [], ◌∷◌, ◌++◌, map, ℕ, eqb, replicate}
use Rattle.basics.specs.Tests.{every}
use Rattle.basics.specs.Lists.{All}
use Rattle.amounts.specs.declared.Bill.{Bill}
use Rattle.model.specs.Codes.{opening, amend}
use Rattle.model.specs.OpenContracts.{no_contracts, put_contract}
use Rattle.model.specs.declared.Call.{Call}
use Rattle.model.specs.Calls.{CallWithBook, request_of, ◌with◌}
use Rattle.model.specs.Rules.{refusal}
use Rattle.model.specs.PresentRules.{present_rules}
use Rattle.model.specs.Sheet.{Sheet, view}
use Rattle.model.specs.Run.{zero_book}
use Rattle.model.specs.BookEntries.{priced_at}

-- a call made on a sheet, and the number that turns it down
pub record Boundary : Type 0 where
  pub sheet : Sheet
  pub call : CallWithBook
  pub number : ℕ

infix 4 ◌on◌gives◌
abbrev pub ◌on◌gives◌ : CallWithBook → Sheet → ℕ → Boundary
c on s gives n = record { sheet = s; call = c; number = n }

-- a standing bill of a contract
unfoldable pub standing : (contract first last : ℕ) → Bill
standing c first last = record { contract = c; first = first; last = last; kwh = 1; etii = 0; qhs = 0; reference = 1; supply = 1 }

-- contract 0 flexible electricity, contract 1 variable gas
unfoldable pub sheet_with : (territory : ℕ) → List Bill → (claims : ℕ) → Sheet
sheet_with t bs n = record { territory = t; contracts = put_contract (put_contract no_contracts 0 (opening 0 2 0 0)) 1 (opening 1 1 0 0); bills = bs; claims = n }

-- a Great Britain and a Northern Ireland ledger in which contract 0 has bills of the days 500 to 510 and 600 to 610
unfoldable pub britain : Sheet
britain = sheet_with 0 (standing 0 500 510 ∷ standing 0 600 610 ∷ []) 0

unfoldable pub northern_ireland : Sheet
northern_ireland = sheet_with 1 (standing 0 500 510 ∷ standing 0 600 610 ∷ []) 0

-- a Northern Ireland ledger with fixed and index electricity; the book has their prices in entry 5, the price-fix day, and in entry 1,728
unfoldable pub fixed_and_index : Sheet
fixed_and_index = record { territory = 1; contracts = put_contract (put_contract no_contracts 0 (opening 0 0 5 6)) 1 (opening 0 3 0 0); bills = []; claims = 0 }

-- a ledger with two contracts of fixed electricity, the second amended with the original end 600, and a flexible one; the first two have a bill of
-- the days 590 to 600, the third one that ends later
unfoldable pub amended : Sheet
amended = record {
  territory = 0;
  contracts = put_contract (put_contract (put_contract no_contracts 0 (opening 0 0 5 6)) 1 (amend (opening 0 0 5 6) 600 7 8)) 2 (opening 0 2 0 0);
  bills = standing 0 590 600 ∷ standing 1 590 600 ∷ standing 2 590 851 ∷ [];
  claims = 0;
}

-- so many rows held; the test reads no more of them
unfoldable pub sheet_of_bills : ℕ → Sheet
sheet_of_bills n = sheet_with 0 (replicate n (standing 1 486 486)) 0

-- so many claims made
unfoldable pub sheet_of_claims : ℕ → Sheet
sheet_of_claims n = sheet_with 0 [] n

-- a price of contract 1 in April 2023: entry 1,716 of the book
unfoldable pub april : List ℕ
april = priced_at 1716

-- 3: the book isn't 1,740 entries or has one above 999,999
unfoldable pub at_number3 : List Boundary
at_number3 =
    (Call.Bill (request_of 0 486 499 1 1 1 0 0) with (replicate 1739 0) on britain gives 3)
    ∷ (Call.Bill (request_of 0 486 499 1 1 1 0 0) with (replicate 1741 0) on britain gives 3)
    ∷ (Call.Bill (request_of 0 486 499 1 1 1 0 0) with (1000000 ∷ replicate 1739 0) on britain gives 3)
    ∷ (Call.Bill (request_of 0 486 499 1 1 1 0 0) with (999999 ∷ replicate 1739 0) on britain gives 0)
    ∷ []

-- 4: the contract number is above 63
unfoldable pub at_number4 : List Boundary
at_number4 = (Call.Open 64 0 0 0 0 with [] on britain gives 4) ∷ (Call.Open 63 0 0 0 0 with [] on britain gives 0) ∷ []

-- 5: the contract is open already (open), or isn't open
unfoldable pub at_number5 : List Boundary
at_number5 = (Call.Open 1 0 0 0 0 with [] on britain gives 5) ∷ (Call.Report 2 with [] on britain gives 5) ∷ (Call.Report 1 with [] on britain gives 0) ∷ []

-- 16: the contract isn't fixed or is amended already
unfoldable pub at_number16 : List Boundary
at_number16 =
    (Call.Amend 0 600 0 0 with [] on britain gives 16)
    ∷ (Call.Amend 1 600 0 0 with [] on britain gives 16)
    ∷ (Call.Amend 1 600 0 0 with [] on fixed_and_index gives 16)
    ∷ (Call.Amend 0 600 0 0 with [] on fixed_and_index gives 0)
    ∷ (Call.Amend 0 486 0 0 with [] on fixed_and_index gives 0)
    ∷ (Call.Amend 1 600 7 8 with [] on amended gives 16)
    ∷ []

-- 6: a code has no meaning, or kind 3 is given outside its place
unfoldable pub at_number6 : List Boundary
at_number6 =
    (Call.Open 2 2 0 0 0 with [] on britain gives 6)
    ∷ (Call.Open 2 0 4 0 0 with [] on britain gives 6)
    ∷ (Call.Open 2 0 3 0 0 with [] on britain gives 6)
    ∷ (Call.Open 2 1 3 0 0 with [] on northern_ireland gives 6)
    ∷ (Call.Open 2 0 3 0 0 with [] on northern_ireland gives 0)
    ∷ (Call.Open 2 1 0 0 0 with [] on britain gives 0)
    ∷ (Call.Open 2 0 1 0 0 with [] on britain gives 0)
    ∷ (Call.Open 2 1 2 0 0 with [] on britain gives 0)
    ∷ (Call.Cert 0 3 511 with [] on britain gives 6)
    ∷ []

-- 7: a day is wrong
unfoldable pub at_number7 : List Boundary
at_number7 =
    (Call.Open 2 0 0 852 0 with [] on britain gives 7)
    ∷ (Call.Open 2 0 0 0 852 with [] on britain gives 7)
    ∷ (Call.Open 2 0 0 851 851 with [] on britain gives 0)
    ∷ (Call.Open 2 0 1 1 0 with [] on britain gives 7)
    ∷ (Call.Open 2 0 1 0 1 with [] on britain gives 7)
    ∷ (Call.Cert 0 1 485 with [] on britain gives 7)
    ∷ (Call.Cert 0 1 486 with [] on britain gives 0)
    ∷ (Call.Cert 0 1 851 with [] on britain gives 0)
    ∷ (Call.Cert 0 1 852 with [] on britain gives 7)
    ∷ (Call.Cert 0 2 510 with [] on britain gives 7)
    ∷ (Call.Cert 0 2 511 with [] on britain gives 0)
    ∷ (Call.Cert 0 0 1 with [] on britain gives 7)
    ∷ (Call.Cert 0 0 0 with [] on britain gives 0)
    ∷ (Call.Bill (request_of 0 485 499 1 1 1 0 0) with zero_book on britain gives 7)
    ∷ (Call.Bill (request_of 0 486 499 1 1 1 0 0) with zero_book on britain gives 0)
    ∷ (Call.Bill (request_of 0 851 852 1 1 1 0 0) with zero_book on britain gives 7)
    ∷ (Call.Bill (request_of 0 851 851 1 1 1 0 0) with zero_book on britain gives 0)
    ∷ (Call.Bill (request_of 0 499 498 1 1 1 0 0) with zero_book on britain gives 7)
    ∷ (Call.Amend 0 485 0 0 with [] on amended gives 7)
    ∷ (Call.Amend 0 852 0 0 with [] on amended gives 7)
    ∷ (Call.Amend 0 4294967295 0 0 with [] on amended gives 7)
    ∷ (Call.Amend 0 851 852 0 with [] on amended gives 7)
    ∷ (Call.Amend 0 851 0 852 with [] on amended gives 7)
    ∷ (Call.Amend 0 851 851 851 with [] on amended gives 0)
    ∷ (Call.Amend 0 600 851 0 with [] on amended gives 0)
    ∷ (Call.Amend 0 600 0 851 with [] on amended gives 0)
    ∷ []

-- a Northern Ireland ledger in which contract 1 is of that fuel and kind
unfoldable pub sheet_of_kind : (fuel kind : ℕ) → List Bill → Sheet
sheet_of_kind fuel kind bs = record { territory = 1; contracts = put_contract no_contracts 1 (opening fuel kind 0 0); bills = bs; claims = 0 }

-- a span of that contract, billed, and billed again in place of a row with its first day; every price is published
unfoldable pub span_gives : (fuel kind first last number : ℕ) → List Boundary
span_gives fuel kind first last number =
    (Call.Bill (request_of 1 first last 1 1 0 0 0) with replicate 1740 1 on sheet_of_kind fuel kind [] gives number)
    ∷ (Call.Rebill (request_of 1 first last 1 1 0 0 0) with replicate 1740 1 on sheet_of_kind fuel kind (standing 1 first first ∷ []) gives number)
    ∷ []

-- all of April 2023, of February and of March 2024; then spans that touch two months or more: one day more and one day before, two days,
-- 31 days, a quarter, the whole scheme
unfoldable pub months_give : (fuel kind two_months : ℕ) → List Boundary
months_give fuel kind two_months =
    span_gives fuel kind 486 515 0
    ++ span_gives fuel kind 792 820 0
    ++ span_gives fuel kind 821 851 0
    ++ span_gives fuel kind 486 516 two_months
    ++ span_gives fuel kind 791 820 two_months
    ++ span_gives fuel kind 820 821 two_months
    ++ span_gives fuel kind 500 530 two_months
    ++ span_gives fuel kind 486 576 two_months
    ++ span_gives fuel kind 486 851 two_months

-- 15: a variable or index span touches two months; the same spans of fixed and flexible contracts are taken
unfoldable pub at_number15 : List Boundary
at_number15 = months_give 0 1 15 ++ months_give 1 1 15 ++ months_give 0 3 15 ++ months_give 0 0 0 ++ months_give 1 2 0

-- a span that is billed of the amended contract and of the one that isn't, and taken
unfoldable pub beside_end : (first last : ℕ) → List Boundary
beside_end first last =
    (Call.Bill (request_of 1 first last 1 1 0 0 0) with replicate 1740 1 on amended gives 0)
    ∷ (Call.Bill (request_of 0 first last 1 1 0 0 0) with replicate 1740 1 on amended gives 0)
    ∷ []

-- 17: the span starts on or before the original end and ends after it
unfoldable pub at_number17 : List Boundary
at_number17 =
    beside_end 580 589
    ++ beside_end 601 601
    ++ beside_end 601 851
    ++ (Call.Bill (request_of 1 600 601 1 1 0 0 0) with replicate 1740 1 on amended gives 17)
    ∷ (Call.Bill (request_of 1 486 851 1 1 0 0 0) with replicate 1740 1 on amended gives 17)
    ∷ (Call.Rebill (request_of 1 590 601 1 1 0 0 0) with replicate 1740 1 on amended gives 17)
    ∷ (Call.Rebill (request_of 1 590 600 1 1 0 0 0) with replicate 1740 1 on amended gives 0)
    ∷ (Call.Rebill (request_of 0 590 601 1 1 0 0 0) with replicate 1740 1 on amended gives 0)
    ∷ []

-- 18: a standing row ends after the original end given, one wholly after it too
unfoldable pub at_number18 : List Boundary
at_number18 =
    (Call.Amend 0 600 0 0 with [] on amended gives 0)
    ∷ (Call.Amend 0 599 0 0 with [] on amended gives 18)
    ∷ (Call.Amend 0 589 0 0 with [] on amended gives 18)
    ∷ (Call.Amend 0 486 0 0 with [] on amended gives 18)
    ∷ []

-- so many kWh at the highest prices, billed, and billed again in place of a row
unfoldable pub kwh_gives : (kwh number : ℕ) → List Boundary
kwh_gives kwh number =
    (Call.Bill (request_of 0 486 499 kwh 999999 999999 0 0) with zero_book on britain gives number)
    ∷ (Call.Rebill (request_of 0 500 510 kwh 999999 999999 0 0) with zero_book on britain gives number)
    ∷ []

-- 8: kWh is above 40,000,000, S or WAP above 999,999, or a WAP not 0 where it must be
unfoldable pub at_number8 : List Boundary
at_number8 =
    kwh_gives 0 0
    ++ kwh_gives 40000000 0
    ++ kwh_gives 40000001 8
    ++ kwh_gives 100000000 8
    ++ kwh_gives 4294967295 8
    ++ (Call.Bill (request_of 0 486 499 1 1000000 1 0 0) with zero_book on britain gives 8)
    ∷ (Call.Bill (request_of 0 486 499 1 1 1000000 0 0) with zero_book on britain gives 8)
    ∷ (Call.Bill (request_of 1 486 515 1 1 1 0 0) with april on britain gives 8)
    ∷ (Call.Bill (request_of 0 486 515 1 1 1 0 0) with priced_at 5 on fixed_and_index gives 8)
    ∷ (Call.Bill (request_of 1 486 515 1 1 1 0 0) with priced_at 1728 on fixed_and_index gives 8)
    ∷ []

-- 14: the two shares exceed kWh, added without a limit
unfoldable pub at_number14 : List Boundary
at_number14 =
    (Call.Bill (request_of 0 486 499 100 1 1 100 0) with zero_book on britain gives 0)
    ∷ (Call.Bill (request_of 0 486 499 100 1 1 0 100) with zero_book on britain gives 0)
    ∷ (Call.Bill (request_of 0 486 499 100 1 1 60 40) with zero_book on britain gives 0)
    ∷ (Call.Bill (request_of 0 486 499 100 1 1 101 0) with zero_book on britain gives 14)
    ∷ (Call.Bill (request_of 0 486 499 100 1 1 0 101) with zero_book on britain gives 14)
    ∷ (Call.Bill (request_of 0 486 499 100 1 1 60 41) with zero_book on britain gives 14)
    ∷ (Call.Bill (request_of 0 486 499 0 1 1 0 1) with zero_book on britain gives 14)
    ∷ (Call.Bill (request_of 0 486 499 100 1 1 4294967295 0) with zero_book on britain gives 14)
    ∷ (Call.Bill (request_of 0 486 499 100 1 1 4294967295 1) with zero_book on britain gives 14)
    ∷ (Call.Bill (request_of 0 486 499 100 1 1 4294967295 4294967295) with zero_book on britain gives 14)
    ∷ (Call.Rebill (request_of 0 500 510 100 1 1 60 40) with zero_book on britain gives 0)
    ∷ (Call.Rebill (request_of 0 500 510 100 1 1 60 41) with zero_book on britain gives 14)
    ∷ []

-- 9: no row of that contract has that first day
unfoldable pub at_number9 : List Boundary
at_number9 =
    (Call.Cancel 0 501 with [] on britain gives 9)
    ∷ (Call.Cancel 1 500 with [] on britain gives 9)
    ∷ (Call.Cancel 0 500 with [] on britain gives 0)
    ∷ (Call.Rebill (request_of 0 501 501 1 1 1 0 0) with zero_book on britain gives 9)
    ∷ []

-- 10: another row of the contract shares a day with the span
unfoldable pub at_number10 : List Boundary
at_number10 =
    (Call.Bill (request_of 0 510 599 1 1 1 0 0) with zero_book on britain gives 10)
    ∷ (Call.Bill (request_of 0 511 600 1 1 1 0 0) with zero_book on britain gives 10)
    ∷ (Call.Bill (request_of 0 511 599 1 1 1 0 0) with zero_book on britain gives 0)
    ∷ (Call.Rebill (request_of 0 500 600 1 1 1 0 0) with zero_book on britain gives 10)
    ∷ (Call.Rebill (request_of 0 500 599 1 1 1 0 0) with zero_book on britain gives 0)
    ∷ []

-- 11: the book's price needed is 0; a flexible contract needs none
unfoldable pub at_number11 : List Boundary
at_number11 =
    (Call.Bill (request_of 1 516 545 1 1 0 0 0) with april on britain gives 11)
    ∷ (Call.Bill (request_of 1 515 515 1 1 0 0 0) with april on britain gives 0)
    ∷ (Call.Bill (request_of 0 486 499 1 1 0 0 0) with zero_book on britain gives 0)
    ∷ (Call.Bill (request_of 0 486 515 1 1 0 0 0) with priced_at 6 on fixed_and_index gives 11)
    ∷ (Call.Bill (request_of 0 486 515 1 1 0 0 0) with priced_at 5 on fixed_and_index gives 0)
    ∷ (Call.Bill (request_of 1 486 515 1 1 0 0 0) with zero_book on fixed_and_index gives 11)
    ∷ (Call.Bill (request_of 1 486 515 1 1 0 0 0) with priced_at 1728 on fixed_and_index gives 0)
    ∷ (Call.Rebill (request_of 1 590 600 1 1 0 0 0) with priced_at 5 on amended gives 0)
    ∷ (Call.Rebill (request_of 1 590 600 1 1 0 0 0) with priced_at 7 on amended gives 11)
    ∷ (Call.Bill (request_of 1 601 610 1 1 0 0 0) with priced_at 5 on amended gives 11)
    ∷ (Call.Bill (request_of 1 601 610 1 1 0 0 0) with priced_at 7 on amended gives 0)
    ∷ []

-- 12: 1,024 rows are held already
unfoldable pub at_number12 : List Boundary
at_number12 = (Call.Bill (request_of 0 486 499 1 1 1 0 0) with zero_book on sheet_of_bills 1024 gives 12) ∷ (Call.Bill (request_of 0 486 499 1 1 1 0 0) with zero_book on sheet_of_bills 1023 gives 0) ∷ []

-- 13: 1,000 claims were made already
unfoldable pub at_number13 : List Boundary
at_number13 = (Call.Claim with [] on sheet_of_claims 1000 gives 13) ∷ (Call.Claim with [] on sheet_of_claims 999 gives 0) ∷ []

-- calls that two tests or more turn down: the number is the first in checking order
unfoldable pub in_checking_order : List Boundary
in_checking_order =
    (Call.Bill (request_of 64 486 499 1 1 1 0 0) with (replicate 1739 0) on britain gives 3)
    ∷ (Call.Bill (request_of 64 485 499 1 1 1 0 0) with zero_book on britain gives 4)
    ∷ (Call.Bill (request_of 2 485 499 1 1 1 0 0) with zero_book on britain gives 5)
    ∷ (Call.Rebill (request_of 64 485 499 1 1 1 0 0) with (replicate 1739 0) on britain gives 3)
    ∷ (Call.Rebill (request_of 64 485 499 1 1 1 0 0) with zero_book on britain gives 4)
    ∷ (Call.Rebill (request_of 2 485 499 1 1 1 0 0) with zero_book on britain gives 5)
    ∷ (Call.Open 64 2 0 0 0 with [] on britain gives 4)
    ∷ (Call.Open 1 2 0 0 0 with [] on britain gives 5)
    ∷ (Call.Open 2 2 0 852 0 with [] on britain gives 6)
    ∷ (Call.Cert 2 3 852 with [] on britain gives 5)
    ∷ (Call.Cert 0 3 852 with [] on britain gives 6)
    ∷ (Call.Bill (request_of 0 485 499 40000001 1 1 0 0) with zero_book on britain gives 7)
    ∷ (Call.Bill (request_of 1 486 576 1 1 0 0 0) with (replicate 1739 0) on britain gives 3)
    ∷ (Call.Bill (request_of 64 486 576 1 1 0 0 0) with zero_book on britain gives 4)
    ∷ (Call.Bill (request_of 2 486 576 1 1 0 0 0) with zero_book on britain gives 5)
    ∷ (Call.Bill (request_of 1 485 516 1 1 0 0 0) with zero_book on britain gives 7)
    ∷ (Call.Bill (request_of 1 547 4294967295 1 1 0 0 0) with zero_book on britain gives 7)
    ∷ (Call.Rebill (request_of 1 516 515 1 1 0 0 0) with zero_book on britain gives 7)
    ∷ (Call.Bill (request_of 1 486 516 40000001 1 1 4294967295 0) with zero_book on sheet_of_bills 1024 gives 15)
    ∷ (Call.Rebill (request_of 1 487 516 40000001 1 1 4294967295 0) with zero_book on sheet_of_bills 1 gives 15)
    ∷ (Call.Bill (request_of 1 600 4294967295 1 1 0 0 0) with zero_book on amended gives 7)
    ∷ (Call.Bill (request_of 1 600 601 40000001 1 1 4294967295 0) with zero_book on amended gives 17)
    ∷ (Call.Rebill (request_of 1 591 601 40000001 1 1 4294967295 0) with zero_book on amended gives 17)
    ∷ (Call.Amend 64 485 852 852 with [] on amended gives 4)
    ∷ (Call.Amend 3 485 852 852 with [] on amended gives 5)
    ∷ (Call.Amend 1 485 852 852 with [] on amended gives 16)
    ∷ (Call.Amend 2 485 852 852 with [] on amended gives 16)
    ∷ (Call.Amend 0 486 852 0 with [] on amended gives 7)
    ∷ (Call.Rebill (request_of 0 501 501 40000001 1 1 4294967295 0) with zero_book on britain gives 8)
    ∷ (Call.Bill (request_of 0 486 499 40000001 1 1 4294967295 0) with zero_book on britain gives 8)
    ∷ (Call.Rebill (request_of 0 501 501 1 1 1 1 1) with zero_book on britain gives 14)
    ∷ (Call.Bill (request_of 1 486 486 1 1 0 2 0) with zero_book on sheet_of_bills 1024 gives 14)
    ∷ (Call.Rebill (request_of 0 501 501 1 1 1 0 0) with zero_book on britain gives 9)
    ∷ (Call.Rebill (request_of 1 487 487 1 1 0 0 0) with zero_book on sheet_of_bills 1 gives 9)
    ∷ (Call.Rebill (request_of 1 486 488 1 1 0 0 0) with zero_book on sheet_with 0 (standing 1 486 486 ∷ standing 1 488 488 ∷ []) 0 gives 10)
    ∷ (Call.Bill (request_of 1 486 486 1 1 0 0 0) with zero_book on sheet_of_bills 1 gives 10)
    ∷ (Call.Bill (request_of 1 487 487 1 1 0 0 0) with zero_book on sheet_of_bills 1024 gives 11)
    ∷ []

-- the number that turns the call down is the one given
unfoldable pub as_given : Boundary → Bool
as_given e = eqb (refusal present_rules (view e.sheet) e.call) e.number

abbrev pub AtTheBoundaries : Type 0
AtTheBoundaries = All
    (λ table. every (map as_given table) ≡ true)
    (at_number3 ∷ at_number4 ∷ at_number5 ∷ at_number16 ∷ at_number6 ∷ at_number7 ∷ at_number15 ∷ at_number17 ∷ at_number18 ∷ at_number8 ∷ at_number14 ∷ at_number9 ∷ at_number10 ∷ at_number11 ∷ at_number12 ∷ at_number13 ∷ in_checking_order ∷ [])
