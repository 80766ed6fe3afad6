-- Document 02, paper 5: the guidance's three illustrations of "Blend and Extend", as a history of a Great Britain ledger, and its answers.
-- Assumes nothing.
use Rattle.std.specs.Prelude.{◌≡◌, List, [], ◌∷◌, ◌++◌, map, ℕ, pos, replicate, Result, Ok, Err}
use Rattle.model.specs.declared.Answer.{Answer}
use Rattle.model.specs.declared.Answer.TheVariants.{Done, Billed, Certified, Claimed, Totalled}
use Rattle.model.specs.declared.Call.{Call}
use Rattle.model.specs.Calls.{CallWithBook, ◌with◌, request_of}
use Rattle.model.specs.PresentRules.{present_rules}
use Rattle.model.specs.History.{answers_to, ledger_machine}

-- electricity's price is 45,000 mils on day 300, 31,200 on day 540 and 40,000 on day 790
unfoldable pub blend_book : List ℕ
blend_book = replicate 300 0 ++ (45000 ∷ replicate 239 0 ++ (31200 ∷ replicate 249 0 ++ (40000 ∷ replicate 949 0)))

-- a contract fixed on day 300 and entered on day 290, with a supply price of 60,000 mils in May; it is blended and extended from 1 June 2023 on,
-- day 547, at another supply price, its original end being day 668
abbrev pub illustration : (contract supply : ℕ) → List Call
illustration contract supply =
    Call.Open contract 0 0 300 290
    ∷ Call.Bill (request_of contract 516 546 1000 60000 0 0 0)
    ∷ Call.Amend contract 668 540 545
    ∷ Call.Bill (request_of contract 547 576 1000 supply 0 0 0)
    ∷ []

-- 1: the supply price stays far above the threshold; 2: it falls below it; 3: it falls to 1,000 mils above it. Then contract 1 is billed after its
-- original end, and not across it; contract 3 is amended already, and so is contract 1 also with its ETII certificate, which from June on re-rates two
-- bills. Contract 4, of a heat supplier, is amended with the original end 791, by when its bill ends, and entered anew on day 792
unfoldable pub blend_calls : List CallWithBook
blend_calls = map (λ c. c with blend_book) (
    illustration 1 50000
    ++ illustration 2 28000
    ++ illustration 3 31200
    ++ Call.Bill (request_of 1 660 670 1000 50000 0 0 0)
    ∷ Call.Bill (request_of 1 669 699 1000 50000 0 0 0)
    ∷ Call.Amend 3 575 540 545
    ∷ Call.Claim
    ∷ Call.Cert 1 1 547
    ∷ Call.Amend 1 851 540 545
    ∷ Call.Open 4 0 0 300 290
    ∷ Call.Cert 4 2 511
    ∷ Call.Bill (request_of 4 761 791 1000 50000 0 0 0)
    ∷ Call.Amend 4 790 790 792
    ∷ Call.Amend 4 791 790 792
    ∷ Call.Bill (request_of 4 792 820 1000 50000 0 0 0)
    ∷ Call.Total
    ∷ [])

-- until the original end the base discount is the original contract's, 45,000 − 30,200 mils: in May the maximum, 1,961, is the least; from June on
-- it is the maximum (1), nothing (2), 31,200 − 30,200 (3). After it, by the price of day 540, 31,200 − 30,200. ETII: 3 × 1,961 + 7 × 8,900 and
-- 3 × 1,000 + 7 × 8,900 ticks. QHS: 50,000 − 34,000, and with the new minimum 50,000 − 28,240
unfoldable pub blend_answers : List (Result Answer ℕ)
blend_answers =
    Ok Done
    ∷ Ok (Billed 45000 19610 19610000)
    ∷ Ok Done
    ∷ Ok (Billed 45000 19610 19610000)
    ∷ Ok Done
    ∷ Ok (Billed 45000 19610 19610000)
    ∷ Ok Done
    ∷ Ok (Billed 45000 0 0)
    ∷ Ok Done
    ∷ Ok (Billed 45000 19610 19610000)
    ∷ Ok Done
    ∷ Ok (Billed 45000 10000 10000000)
    ∷ Err 17
    ∷ Ok (Billed 31200 10000 10000000)
    ∷ Err 16
    ∷ Ok (Claimed (pos 9844) 0)
    ∷ Ok (Certified (pos 103873000) 2)
    ∷ Err 16
    ∷ Ok Done
    ∷ Ok (Certified (pos 0) 0)
    ∷ Ok (Billed 45000 160000 160000000)
    ∷ Err 18
    ∷ Ok Done
    ∷ Ok (Billed 40000 217600 217600000)
    ∷ Ok (Totalled 579913000 (pos 481473000))
    ∷ []

abbrev pub BlendAndExtendExample : Type 0
BlendAndExtendExample = answers_to (ledger_machine present_rules) 0 blend_calls ≡ blend_answers
