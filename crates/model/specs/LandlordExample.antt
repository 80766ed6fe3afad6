-- Document 02, paper 1: two months of a landlord's meter with an ETII and a QHS tenant, as a history of a Great Britain ledger, and its
-- answers. Assumes nothing.
use Rattle.std.specs.Prelude.{◌≡◌, ℕ, List, [], ◌∷◌, map, pos, neg_ℤ, Result, Ok}
use Rattle.model.specs.declared.Answer.{Answer}
use Rattle.model.specs.declared.Answer.TheVariants.{Done, Billed, Rebilled, Certified, Claimed, Reported, Totalled}
use Rattle.model.specs.declared.Call.{Call}
use Rattle.model.specs.Calls.{CallWithBook, ◌with◌, request_of}
use Rattle.model.specs.PresentRules.{present_rules}
use Rattle.model.specs.History.{answers_to, ledger_machine}
use Rattle.model.specs.Run.{zero_book}

-- 400 of 1,000 kWh are the ETII tenant's and 350 the QHS tenant's, on either side of the new QHS minimum. A certificate leaves both bills and
-- counts neither; the first is billed again with other shares, the second without, and is then of the certificate's class
unfoldable pub landlord_calls : List CallWithBook
landlord_calls = map (λ c. c with zero_book) (
    Call.Open 5 0 2 0 0
    ∷ Call.Bill (request_of 5 761 791 1000 50000 40000 400 350)
    ∷ Call.Bill (request_of 5 792 820 1000 50000 40000 400 350)
    ∷ Call.Claim
    ∷ Call.Cert 5 1 761
    ∷ Call.Total
    ∷ Call.Rebill (request_of 5 761 791 1200 50000 40000 480 420)
    ∷ Call.Claim
    ∷ Call.Rebill (request_of 5 792 820 1000 50000 40000 0 0)
    ∷ Call.Claim
    ∷ Call.Report 5
    ∷ [])

-- 250 × 19,610 + 400 × 68,183 + 350 × 160,000 ticks, then 350 × 217,600; 300, 480 and 420 kWh; 1,000 × 68,183
unfoldable pub landlord_answers : List (Result Answer ℕ)
landlord_answers =
    Ok Done
    ∷ Ok (Billed 40000 19610 88175700)
    ∷ Ok (Billed 40000 19610 108335700)
    ∷ Ok (Claimed (pos 19651) 1400)
    ∷ Ok (Certified (pos 0) 0)
    ∷ Ok (Totalled 196511400 (pos 1400))
    ∷ Ok (Rebilled 40000 19610 (pos 17635140))
    ∷ Ok (Claimed (pos 1763) 6540)
    ∷ Ok (Rebilled 40000 68183 (neg_ℤ (pos 40152700)))
    ∷ Ok (Claimed (neg_ℤ (pos 4015)) 3840)
    ∷ Ok (Reported 2 2200 173993840)
    ∷ []

abbrev pub LandlordExample : Type 0
LandlordExample = answers_to (ledger_machine present_rules) 0 landlord_calls ≡ landlord_answers
