-- Document 02, paper 6: "A stored row up to 100,000,000 is still well formed and is re-rated like others." Three rows of more than 40,000,000 kWh
-- that were stored before, one with shares, and calls on them with their answers. Assumes nothing.
use Rattle.std.specs.Prelude.{List, [], ◌∷◌, map, ℕ, pos, neg_ℤ, Result, Ok, Err}
use Rattle.model.specs.declared.Row.{Row}
use Rattle.model.specs.declared.Answer.{Answer}
use Rattle.model.specs.declared.Answer.TheVariants.{Billed, Rebilled, Certified, Cancelled, Claimed, Reported, Totalled}
use Rattle.model.specs.declared.Call.{Call}
use Rattle.model.specs.Calls.{CallWithBook, ◌with◌, request_of}
use Rattle.model.specs.PresentRules.{present_rules}
use Rattle.model.specs.Ledger.{Ledger}
use Rattle.model.specs.History.{left_with_rows}
use Rattle.model.specs.Run.{zero_book}
use Rattle.model.specs.StoredExample.{StoredExample}

-- contract 5 is flexible electricity, contract 6 flexible gas
abbrev pub openings : List CallWithBook
openings = (Call.Open 5 0 2 0 0 with []) ∷ (Call.Open 6 1 2 0 0 with []) ∷ []

-- a Great Britain ledger with April and May 2023 of contract 5, 100,000,000 and 40,000,001 kWh × 17,800 ticks, and April of contract 6: 10,000,001
-- kWh × 6,970 ticks, an ETII share of 10,000,000 × 16,791 and a QHS share of 20,000,000 × 120,000
abbrev pub april_row : Row
april_row =
    record { bill = record { contract = 5; first = 486; last = 515; kwh = 100000000; etii = 0; qhs = 0; reference = 31980; supply = 67030 }; amount = 1780000000000 }

abbrev pub may_row : Row
may_row =
    record { bill = record { contract = 5; first = 516; last = 546; kwh = 40000001; etii = 0; qhs = 0; reference = 31980; supply = 67030 }; amount = 712000017800 }

abbrev pub row_with_shares : Row
row_with_shares =
    record { bill = record { contract = 6; first = 486; last = 515; kwh = 40000001; etii = 10000000; qhs = 20000000; reference = 12000; supply = 20000 }; amount = 2637610006970 }

unfoldable pub stored_larger_rows : Ledger
stored_larger_rows = left_with_rows present_rules 0 openings (april_row ∷ may_row ∷ row_with_shares ∷ [])

-- what was answered to the three bills
abbrev pub earlier_answers : List (Result Answer ℕ)
earlier_answers = Ok (Billed 31980 17800 1780000000000) ∷ Ok (Billed 31980 17800 712000017800) ∷ Ok (Billed 12000 6970 2637610006970) ∷ []

-- the rows are claimed. A certificate that begins inside May re-rates that row, one from April on both of the contract, and another contract's leaves
-- the row with shares. More than 40,000,000 kWh are turned down, billed again and in a new bill, and 40,000,000 taken. Two rows are cancelled
unfoldable pub larger_rows_calls : List CallWithBook
larger_rows_calls = map (λ c. c with zero_book) (
    Call.Claim
    ∷ Call.Cert 5 1 531
    ∷ Call.Cert 5 1 486
    ∷ Call.Cert 6 1 486
    ∷ Call.Report 5
    ∷ Call.Rebill (request_of 5 486 515 100000000 67030 31980 0 0)
    ∷ Call.Rebill (request_of 5 516 546 40000001 67030 31980 0 0)
    ∷ Call.Rebill (request_of 5 486 515 40000000 67030 31980 0 0)
    ∷ Call.Bill (request_of 5 547 576 40000001 67030 31980 0 0)
    ∷ Call.Bill (request_of 5 547 576 40000000 67030 31980 0 0)
    ∷ Call.Claim
    ∷ Call.Cancel 5 516
    ∷ Call.Report 6
    ∷ Call.Cancel 6 486
    ∷ Call.Total
    ∷ [])

-- of May's kWh floor(40,000,001 × 15 / 31) = 19,354,839 stay baseline, and 20,645,162 × (67,640 − 17,800) ticks are the first certificate's change;
-- the second's is (100,000,000 + 19,354,839) × (67,640 − 17,800), the rebill's (40,000,000 − 100,000,000) × 67,640, the new bill's amount
-- 40,000,000 × 67,640
unfoldable pub larger_rows_answers : List (Result Answer ℕ)
larger_rows_answers =
    Ok (Claimed (pos 512961002) 4770)
    ∷ Ok (Certified (pos 1028954874080) 1)
    ∷ Ok (Certified (pos 5948645175760) 2)
    ∷ Ok (Certified (pos 0) 0)
    ∷ Ok (Reported 2 140000001 9469600067640)
    ∷ Err 8
    ∷ Err 8
    ∷ Ok (Rebilled 31980 67640 (neg_ℤ (pos 4058400000000)))
    ∷ Err 8
    ∷ Ok (Billed 31980 67640 2705600000000)
    ∷ Ok (Claimed (pos 562480005) 4610)
    ∷ Ok (Cancelled (neg_ℤ (pos 2705600067640)))
    ∷ Ok (Reported 1 40000001 2637610006970)
    ∷ Ok (Cancelled (neg_ℤ (pos 2637610006970)))
    ∷ Ok (Totalled 5411200000000 (neg_ℤ (pos 5343210070000)))
    ∷ []

abbrev pub LargerRowsExample : Type 0
LargerRowsExample = StoredExample stored_larger_rows earlier_answers larger_rows_calls larger_rows_answers
