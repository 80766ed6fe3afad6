-- Document 02, paper 2: "15, a variable or index span touches two months, tested after 7", exactly: which calls number 15 turns down, whatever
-- rows are held and whatever other numbers are given. Assumes nothing.
use Rattle.std.specs.Prelude.{◌≡◌, true, List, ◌↔◌, ℕ}
use Rattle.model.specs.declared.Request.{Request}
use Rattle.model.specs.Calls.{CallWithBook, View}
use Rattle.model.specs.Rules.{refusal}
use Rattle.model.specs.PresentRules.{bad_months, present_rules}
use Rattle.model.specs.AcceptedCalls.{OfRequest, RightContractAndDays, contract_named}

-- a request that 3, 4, 5 and 7 let pass, and whose span touches two months under its contract
pub record TwoMonthsGiven (v : View) (q : Request) (book : List ℕ) : Type 0 where
  pub right : RightContractAndDays v q book
  pub months : bad_months (contract_named v q).kind q.first q.last ≡ true

-- number 15 turns down such a bill or rebill, and no other call
abbrev pub NumberFifteen : Type 0
NumberFifteen = (v : View) (c : CallWithBook) → (refusal present_rules v c ≡ 15) ↔ OfRequest TwoMonthsGiven v c
