-- Document 02, paper 3: certificates that begin inside a bill, as a history of a Great Britain ledger, and its answers. Assumes nothing.
use Rattle.std.specs.Prelude.{◌≡◌, ℕ, List, [], ◌∷◌, map, pos, neg_ℤ, Result, Ok}
use Rattle.model.specs.declared.Answer.{Answer}
use Rattle.model.specs.declared.Answer.TheVariants.{Done, Billed, Rebilled, Certified, Claimed, Reported, Totalled}
use Rattle.model.specs.declared.Call.{Call}
use Rattle.model.specs.Calls.{CallWithBook, ◌with◌, request_of}
use Rattle.model.specs.PresentRules.{present_rules}
use Rattle.model.specs.History.{answers_to, ledger_machine}
use Rattle.model.specs.Run.{zero_book}

-- a claimed bill of 30 days gets an ETII certificate from its eleventh day on, is billed again for fewer kWh, and loses the certificate to one
-- from the day after its last on. A heat supplier's bill has a certificate from its eleventh day on and the new minimum from its 103rd on;
-- then the certificate is taken away
unfoldable pub certificate_inside_calls : List CallWithBook
certificate_inside_calls = map (λ c. c with zero_book) (
    Call.Open 5 0 2 0 0
    ∷ Call.Bill (request_of 5 486 515 1000 67030 31980 0 0)
    ∷ Call.Claim
    ∷ Call.Cert 5 1 496
    ∷ Call.Claim
    ∷ Call.Rebill (request_of 5 486 515 901 67030 31980 0 0)
    ∷ Call.Cert 5 1 516
    ∷ Call.Claim
    ∷ Call.Open 6 0 2 0 0
    ∷ Call.Cert 6 2 700
    ∷ Call.Bill (request_of 6 690 800 1000 50000 40000 0 0)
    ∷ Call.Report 6
    ∷ Call.Total
    ∷ Call.Cert 6 0 0
    ∷ Call.Total
    ∷ [])

-- 1,000 × 17,800 ticks; 333 × 17,800 + 667 × 67,640; 300 × 17,800 + 601 × 67,640; 901 × 17,800. Of 1,000 kWh in 111 days 90 are in the first 10 and
-- 918 in the first 102: 90 × 19,610 + 828 × 160,000 + 82 × 217,600; and 1,000 × 19,610
unfoldable pub certificate_inside_answers : List (Result Answer ℕ)
certificate_inside_answers =
    Ok Done
    ∷ Ok (Billed 31980 17800 17800000)
    ∷ Ok (Claimed (pos 1780) 0)
    ∷ Ok (Certified (pos 33243280) 1)
    ∷ Ok (Claimed (pos 3324) 3280)
    ∷ Ok (Rebilled 31980 17800 (neg_ℤ (pos 5051640)))
    ∷ Ok (Certified (neg_ℤ (pos 29953840)) 1)
    ∷ Ok (Claimed (neg_ℤ (pos 3501)) 7800)
    ∷ Ok Done
    ∷ Ok (Certified (pos 0) 0)
    ∷ Ok (Billed 40000 19610 152088100)
    ∷ Ok (Reported 1 1000 152088100)
    ∷ Ok (Totalled 168125900 (pos 152095900))
    ∷ Ok (Certified (neg_ℤ (pos 132478100)) 1)
    ∷ Ok (Totalled 35647800 (pos 19617800))
    ∷ []

abbrev pub CertificateInsideExample : Type 0
CertificateInsideExample = answers_to (ledger_machine present_rules) 0 certificate_inside_calls ≡ certificate_inside_answers
