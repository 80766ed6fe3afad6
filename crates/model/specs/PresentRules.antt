-- Document 01, "Turned down, in checking order" and the ranges of a well-formed ledger, with papers 1 to 6 of document 02: the rules in
-- force. The limits are named in crate `limits`. Assumes nothing.
use Rattle.std.specs.Prelude.{Bool, true, not, cond, ◌&&◌, ◌||◌, List, [], ◌∷◌, ◌++◌, ℕ, ◌+◌, leb, ltb, eqb, length}
use Rattle.limits.specs.Limits.{last_day, first_scheme_day, first_qhs_day, highest_price, most_kwh_given, most_kwh_stored, book_length, contract_count, row_count, most_claims}
use Rattle.basics.specs.Tests.{every}
use Rattle.basics.specs.Lists.{count}
use Rattle.calendar.specs.Days.{scheme_month}
use Rattle.rates.specs.declared.Kind.{Kind}
use Rattle.rates.specs.declared.Contract.{Contract}
use Rattle.rates.specs.TermsTaken.{crosses_end}
use Rattle.amounts.specs.declared.Bill.{Bill}
use Rattle.amounts.specs.Amounts.{rate, amount, cap, by_terms}
use Rattle.model.specs.Codes.{is_fixed, is_flexible, is_monthly, is_amended}
use Rattle.model.specs.ContractNumbers.{numbers_of_contract, fuel_in, kind_in, price_fix_day_in, entry_day_in, class_in, effective_day_in, amendment_flag_in, original_end_day_in, amended_price_fix_day_in, amended_entry_day_in}
use Rattle.model.specs.OpenContracts.{contract_at, contract_of, is_open}
use Rattle.model.specs.declared.Call.{Call}
use Rattle.model.specs.declared.Request.{Request}
use Rattle.model.specs.Calls.{CallWithBook, View, Test, ◌if◌, named, sharing, ends_after, requested_bill, ◌with◌}
use Rattle.model.specs.Rules.{Rules}

-- 3: the book isn't of its length or has an entry above the highest price
unfoldable pub bad_book : List ℕ → Bool
bad_book book = not (eqb (length book) book_length) || ltb 0 (count (ltb highest_price) book)

-- 4: the contract number is above the last
abbrev pub bad_number : ℕ → Bool
bad_number c = leb contract_count c

-- 16: the contract isn't fixed or is amended already
unfoldable pub not_amendable : Contract → Bool
not_amendable k = not (is_fixed k.kind) || is_amended k.amendment

-- 6: a fuel or kind code has no meaning, or kind 3 is given outside its place (electricity in a Northern Ireland ledger)
unfoldable pub bad_kind : (territory fuel kind : ℕ) → Bool
bad_kind territory fuel kind = ltb 1 fuel || (ltb 3 kind || (eqb kind 3 && not (eqb fuel 0 && eqb territory 1)))

-- 6: a class code has no meaning
abbrev pub bad_class : ℕ → Bool
bad_class class = ltb 2 class

-- 7: price-fix or entry day after the last day, or not 0 where it must be (0 unless fixed)
unfoldable pub bad_days : (kind price_fix_day_of entry_day_of : ℕ) → Bool
bad_days kind fix entry = ltb last_day fix || (ltb last_day entry || (not (eqb kind 0) && not (eqb fix 0 && eqb entry 0)))

-- 7: effective day outside the scheme's days (from a later day on for QHS, only 0 for class 0)
unfoldable pub bad_effective : (class effective_day_of : ℕ) → Bool
bad_effective class day = cond (eqb class 0) (not (eqb day 0)) (ltb last_day day || cond (eqb class 2) (ltb day first_qhs_day) (ltb day first_scheme_day))

-- 7: not the scheme's first day ≤ first ≤ last ≤ the last day
unfoldable pub bad_span : (first last : ℕ) → Bool
bad_span first last = not (leb first_scheme_day first && (leb first last && leb last last_day))

-- 7: an original end that is no day of the scheme, or an amendment's price-fix or entry day after the last day
unfoldable pub bad_amendment_days : (original_end_day_of price_fix_day_of entry_day_of : ℕ) → Bool
bad_amendment_days end fix entry = not (leb first_scheme_day end && leb end last_day) || (ltb last_day fix || ltb last_day entry)

-- 15: a variable or index span touches two months: its first and last day, which are the scheme's, aren't in one
unfoldable pub bad_months : Kind → (first last : ℕ) → Bool
bad_months kind first last = is_monthly kind && not (eqb (scheme_month first) (scheme_month last))

-- 8: kWh is above the most that may be given, S or WAP above the highest price, or a WAP not 0 where it must be (0 unless flexible)
unfoldable pub bad_amounts : Contract → Request → Bool
bad_amounts k q = ltb most_kwh_given q.kwh || (ltb highest_price q.supply || (ltb highest_price q.wap || (not (is_flexible k.kind) && not (eqb q.wap 0))))

-- 14: the two shares exceed kWh
abbrev pub bad_shares : (kwh etii qhs : ℕ) → Bool
bad_shares kwh etii qhs = ltb kwh (etii + qhs)

-- 11: the book's price needed is 0
unfoldable pub no_price : Kind → (reference : ℕ) → Bool
no_price kind reference = not (is_flexible kind) && eqb reference 0

-- 4 and 5, of every call but open that names a contract
unfoldable pub open_tests : View → (contract : ℕ) → List Test
open_tests v c = (4 if bad_number c) ∷ (5 if not (is_open v.contracts c)) ∷ []

-- of bill and rebill: the tests of the book and of the numbers given
unfoldable pub request_tests : View → Request → (book : List ℕ) → List Test
request_tests v q book =
    (3 if bad_book book)
    ∷ open_tests v q.contract
    ++ ((7 if bad_span q.first q.last)
    ∷ (15 if bad_months (contract_at v.contracts q.contract).kind q.first q.last)
    ∷ (17 if crosses_end (contract_at v.contracts q.contract).amendment q.first q.last)
    ∷ (8 if bad_amounts (contract_at v.contracts q.contract) q)
    ∷ (14 if bad_shares q.kwh q.etii q.qhs)
    ∷ [])

-- and then those of the bill that a request makes: its row is new (bill), or takes the place of one (rebill)
unfoldable pub new_row_tests : View → Bill → List Test
new_row_tests v b =
    (10 if ltb 0 (v.held (sharing b.contract b.first b.last)))
    ∷ (11 if no_price (contract_of v.contracts b).kind b.reference)
    ∷ (12 if leb row_count (v.held (λ x. true)))
    ∷ []

unfoldable pub row_again_tests : View → Bill → List Test
row_again_tests v b =
    (9 if not (ltb 0 (v.held (named b.contract b.first))))
    ∷ (10 if ltb 0 (v.held (λ x. sharing b.contract b.first b.last x && not (named b.contract b.first x))))
    ∷ (11 if no_price (contract_of v.contracts b).kind b.reference)
    ∷ []

-- the tests of each call, in checking order (number 1 is the program's, and number 2 meets no call of a history)
unfoldable pub tests : View → CallWithBook → List Test
unfolding open_tests request_tests new_row_tests row_again_tests requested_bill
tests v (Call.Open c fuel kind fix entry with book) =
    (4 if bad_number c)
    ∷ (5 if is_open v.contracts c)
    ∷ (6 if bad_kind v.territory fuel kind)
    ∷ (7 if bad_days kind fix entry)
    ∷ []
tests v (Call.Bill q with book) = request_tests v q book ++ new_row_tests v (requested_bill v.contracts q book)
tests v (Call.Rebill q with book) = request_tests v q book ++ row_again_tests v (requested_bill v.contracts q book)
tests v (Call.Cert c class effective with book) = open_tests v c ++ ((6 if bad_class class) ∷ (7 if bad_effective class effective) ∷ [])
tests v (Call.Cancel c first with book) = open_tests v c ++ ((9 if not (ltb 0 (v.held (named c first)))) ∷ [])
tests v (Call.Claim with book) = (13 if leb most_claims v.claims) ∷ []
tests v (Call.Report c with book) = open_tests v c
tests v (Call.Total with book) = []
tests v (Call.Amend c end fix entry with book) =
    open_tests v c
    ++ ((16 if not_amendable (contract_at v.contracts c))
    ∷ (7 if bad_amendment_days end fix entry)
    ∷ (18 if ltb 0 (v.held (ends_after c end)))
    ∷ [])

-- ---- the ranges of a well-formed ledger

-- an amendment: "A clear flag has three zero days, only a fixed contract has it set"
unfoldable pub bad_amendment : (kind flag original_end_day_of price_fix_day_of entry_day_of : ℕ) → Bool
bad_amendment kind flag end fix entry = cond (eqb flag 0) (not (eqb end 0 && (eqb fix 0 && eqb entry 0))) (ltb 1 flag || (not (eqb kind 0) || bad_amendment_days end fix entry))

-- an open contract, by its numbers
abbrev pub contract_tests : (territory : ℕ) → (numbers : List ℕ) → List Bool
contract_tests t v =
    not (bad_kind t (fuel_in v) (kind_in v))
    ∷ not (bad_days (kind_in v) (price_fix_day_in v) (entry_day_in v))
    ∷ not (bad_class (class_in v))
    ∷ not (bad_effective (class_in v) (effective_day_in v))
    ∷ not (bad_amendment (kind_in v) (amendment_flag_in v) (original_end_day_in v) (amended_price_fix_day_in v) (amended_entry_day_in v))
    ∷ []

unfoldable pub contract_ranges : (territory : ℕ) → (numbers : List ℕ) → Bool
contract_ranges t v = every (contract_tests t v)

unfoldable pub contract_ok : (territory : ℕ) → Contract → Bool
contract_ok t k = contract_ranges t (numbers_of_contract k)

-- a held row: its days, kWh, shares that don't exceed it, S and R, R 0 only for flexible; "no row of an amended contract crosses its original
-- end"; whatever months it touches
abbrev pub bill_tests : Contract → Bill → List Bool
bill_tests k b =
    not (bad_span b.first b.last)
    ∷ leb b.kwh most_kwh_stored
    ∷ not (bad_shares b.kwh b.etii b.qhs)
    ∷ leb b.supply highest_price
    ∷ leb b.reference highest_price
    ∷ not (no_price k.kind b.reference)
    ∷ not (crosses_end k.amendment b.first b.last)
    ∷ []

unfoldable pub bill_ok : Contract → Bill → Bool
bill_ok k b = every (bill_tests k b)

-- ---- the rules: a bill's rate, amount and cap are those by the terms that it takes

abbrev pub present_rules : Rules
present_rules = record {
  contract_limit = contract_count;
  tests = tests;
  rate = by_terms rate;
  amount = by_terms amount;
  cap = by_terms cap;
  contract_ok = contract_ok;
  bill_ok = bill_ok;
}
