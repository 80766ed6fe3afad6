-- What a call on a well-formed ledger is given, and what it owes: the answer and the bytes of the machine in force. Assumes nothing.
use Rattle.std.specs.Prelude.{◌≡◌, List, ℕ, Result}
use Rattle.refusals.specs.declared.Refusal.{Refusal}
use Rattle.refusals.specs.Numbers.{by_number}
use Rattle.model.specs.declared.Answer.{Answer}
use Rattle.model.specs.declared.Call.{Call}
use Rattle.model.specs.Calls.{CallWithBook, View, ◌with◌}
use Rattle.model.specs.Ledger.{view, due}
use Rattle.layout.specs.Present.{Searched, facts, machine}

-- what the refusals read of a packed ledger
abbrev pub view_of : List ℕ → View
view_of b = view (facts b)

-- a well-formed ledger, the number of its rows and the sum of their amounts
pub record Summed (b : List ℕ) (rows sum : ℕ) : Type 0 where
  pub searched : Searched b rows
  pub total : sum ≡ due (facts b)

-- a call on a ledger's bytes answers what the machine answers, a refusal by its number, and leaves what it leaves
pub record Answered (b : List ℕ) (call : CallWithBook) (answer : Result Answer Refusal) (after : List ℕ) : Type 0 where
  pub answered : by_number answer ≡ machine.answer b call
  pub left : after ≡ machine.step b call

-- the same of a call that reads no book, whatever book it brings
abbrev pub AnsweredWithAnyBook : List ℕ → Call → Result Answer Refusal → List ℕ → Type 0
AnsweredWithAnyBook b call answer after = (book : List ℕ) → Answered b (call with book) answer after
