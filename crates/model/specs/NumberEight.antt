-- Document 01, "8. kWh is above .., S or WAP above 999,999, a WAP not 0 where it must be", tested after 15 and 17 of document 02, exactly: which calls
-- number 8 turns down, whatever rows are held and whatever shares are given. Assumes nothing.
use Rattle.std.specs.Prelude.{◌≡◌, true, List, ◌↔◌, ℕ}
use Rattle.model.specs.declared.Request.{Request}
use Rattle.model.specs.Calls.{CallWithBook, View}
use Rattle.model.specs.Rules.{refusal}
use Rattle.model.specs.PresentRules.{bad_amounts, present_rules}
use Rattle.model.specs.AcceptedCalls.{OfRequest, RightSpan, contract_named}

-- a request that 3, 4, 5, 7, 15 and 17 let pass, and whose kWh, S or WAP is out of range
pub record WrongAmountsGiven (v : View) (q : Request) (book : List ℕ) : Type 0 where
  pub span : RightSpan v q book
  pub amounts : bad_amounts (contract_named v q) q ≡ true

-- number 8 turns down such a bill or rebill, and no other call
abbrev pub NumberEight : Type 0
NumberEight = (v : View) (c : CallWithBook) → (refusal present_rules v c ≡ 8) ↔ OfRequest WrongAmountsGiven v c
