-- Document 01, "The program and one run", with both shares given as 0: the run's ten calls as a history of a Great Britain ledger, and its
-- ten answers. Assumes nothing.
use Rattle.std.specs.Prelude.{◌≡◌, List, [], ◌∷◌, map, ℕ, replicate, pos, neg_ℤ, Result, Ok, Err}
use Rattle.limits.specs.Limits.{book_length}
use Rattle.model.specs.declared.Answer.{Answer}
use Rattle.model.specs.declared.Answer.TheVariants.{Done, Billed, Rebilled, Certified, Cancelled, Claimed, Totalled}
use Rattle.model.specs.declared.Call.{Call}
use Rattle.model.specs.Calls.{CallWithBook, ◌with◌, request_of}
use Rattle.model.specs.PresentRules.{present_rules}
use Rattle.model.specs.History.{answers_to, ledger_machine}

-- a book of zeros
unfoldable pub zero_book : List ℕ
zero_book = replicate book_length 0

-- the run's calls, each with a book of zeros
unfoldable pub run_calls : List CallWithBook
run_calls = map (λ c. c with zero_book) (
    Call.Open 0 0 2 0 0
    ∷ Call.Bill (request_of 0 486 515 1000 67030 31980 0 0)
    ∷ Call.Claim
    ∷ Call.Cert 0 1 486
    ∷ Call.Claim
    ∷ Call.Rebill (request_of 0 486 515 901 67030 31980 0 0)
    ∷ Call.Claim
    ∷ Call.Cancel 0 486
    ∷ Call.Total
    ∷ Call.Bill (request_of 64 486 515 1 1 1 0 0)
    ∷ [])

unfoldable pub run_answers : List (Result Answer ℕ)
run_answers =
    Ok Done
    ∷ Ok (Billed 31980 17800 17800000)
    ∷ Ok (Claimed (pos 1780) 0)
    ∷ Ok (Certified (pos 49840000) 1)
    ∷ Ok (Claimed (pos 4984) 0)
    ∷ Ok (Rebilled 31980 67640 (neg_ℤ (pos 6696360)))
    ∷ Ok (Claimed (neg_ℤ (pos 670)) 3640)
    ∷ Ok (Cancelled (neg_ℤ (pos 60943640)))
    ∷ Ok (Totalled 0 (neg_ℤ (pos 60940000)))
    ∷ Err 4
    ∷ []

abbrev pub TheRun : Type 0
TheRun = answers_to (ledger_machine present_rules) 0 run_calls ≡ run_answers
