-- Document 02, paper 2: "Rows already stored stand with the price they hold, remain well formed, and still take certificates and
-- cancellation." Two quarters that were stored under April's price, and calls on them with their answers. Assumes nothing.
use Rattle.std.specs.Prelude.{List, [], ◌∷◌, ◌++◌, map, ℕ, pos, neg_ℤ, replicate, Result, Ok, Err}
use Rattle.model.specs.declared.Row.{Row}
use Rattle.model.specs.declared.Answer.{Answer}
use Rattle.model.specs.declared.Answer.TheVariants.{Billed, Rebilled, Certified, Cancelled, Claimed, Reported, Totalled}
use Rattle.model.specs.declared.Call.{Call}
use Rattle.model.specs.Calls.{CallWithBook, ◌with◌, request_of}
use Rattle.model.specs.PresentRules.{present_rules}
use Rattle.model.specs.Ledger.{Ledger}
use Rattle.model.specs.History.{left_with_rows}
use Rattle.model.specs.StoredExample.{StoredExample}

-- the row of a contract's bill for April to June 2023, without shares
abbrev pub quarter_row : (contract kwh reference supply amount : ℕ) → Row
quarter_row contract kwh reference supply amount =
    record { bill = record { contract = contract; first = 486; last = 576; kwh = kwh; etii = 0; qhs = 0; reference = reference; supply = supply }; amount = amount }

-- contract 5 is variable gas, contract 6 index electricity
abbrev pub openings : List CallWithBook
openings = (Call.Open 5 1 1 0 0 with []) ∷ (Call.Open 6 0 3 0 0 with []) ∷ []

-- a Northern Ireland ledger with a quarter of each: 3,000 kWh × 10 × (11,050 − 10,700) and 2,000 kWh × 10 × (32,000 − 30,200) ticks
unfoldable pub stored_quarters : Ledger
stored_quarters = left_with_rows present_rules 1 openings (quarter_row 5 3000 11050 20000 10500000 ∷ quarter_row 6 2000 32000 60000 36000000 ∷ [])

-- what was answered to the two bills: R, rate and amount (the two contracts' openings answered no numbers)
abbrev pub earlier_answers : List (Result Answer ℕ)
earlier_answers = Ok (Billed 11050 3500 10500000) ∷ Ok (Billed 32000 18000 36000000) ∷ []

-- the gas prices of April, May and June 2023 are 11,050, 10,900 and 12,000 mils
unfoldable pub quarter_book : List ℕ
quarter_book = replicate 1716 0 ++ (11050 ∷ 10900 ∷ 12000 ∷ replicate 21 0)

-- a certificate re-rates the quarter of contract 5; the quarter again, and the next one, are turned down; it is billed again month by month.
-- The quarter of contract 6 is cancelled
unfoldable pub quarter_calls : List CallWithBook
quarter_calls = map (λ c. c with quarter_book) (
    Call.Cert 5 1 486
    ∷ Call.Report 5
    ∷ Call.Claim
    ∷ Call.Rebill (request_of 5 486 576 3000 20000 0 0 0)
    ∷ Call.Bill (request_of 5 577 668 3000 20000 0 0 0)
    ∷ Call.Rebill (request_of 5 486 515 1000 20000 0 0 0)
    ∷ Call.Bill (request_of 5 516 546 1000 20000 0 0 0)
    ∷ Call.Bill (request_of 5 547 576 1000 20000 0 0 0)
    ∷ Call.Rebill (request_of 6 486 576 2000 60000 0 0 0)
    ∷ Call.Cancel 6 486
    ∷ Call.Total
    ∷ [])

-- ETII rates: 3 × 350 + 7 × 1,150, 3 × 200 + 7 × 1,000 and 3 × 697 + 7 × 2,100 ticks
unfoldable pub quarter_answers : List (Result Answer ℕ)
quarter_answers =
    Ok (Certified (pos 16800000) 1)
    ∷ Ok (Reported 1 3000 27300000)
    ∷ Ok (Claimed (pos 6330) 0)
    ∷ Err 15
    ∷ Err 15
    ∷ Ok (Rebilled 11050 9100 (neg_ℤ (pos 18200000)))
    ∷ Ok (Billed 10900 7600 7600000)
    ∷ Ok (Billed 12000 16791 16791000)
    ∷ Err 15
    ∷ Ok (Cancelled (neg_ℤ (pos 36000000)))
    ∷ Ok (Totalled 33491000 (neg_ℤ (pos 29809000)))
    ∷ []

abbrev pub QuarterExample : Type 0
QuarterExample = StoredExample stored_quarters earlier_answers quarter_calls quarter_answers
