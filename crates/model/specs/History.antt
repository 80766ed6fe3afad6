-- A history: a list of calls, run from a fresh ledger by a machine and on a blank sheet. Assumes nothing.
use Rattle.std.specs.Prelude.{List, [], ◌∷◌, ℕ, Result}
use Rattle.model.specs.declared.Row.{Row}
use Rattle.model.specs.declared.Answer.{Answer}
use Rattle.model.specs.Calls.{CallWithBook}
use Rattle.model.specs.Rules.{Rules}
use Rattle.model.specs.Ledger.{Ledger, fresh, ledger_with_rows, step, answer}
use Rattle.model.specs.Sheet
use Rattle.model.specs.Sheet.{Sheet, blank}

-- the state that a list of inputs leaves, and what is answered to them, in order
module _ {S C : Type 0} (move : S → C → S) where
  abbrev pub run : S → List C → S
  run s [] = s
  run s (c ∷ cs) = run (move s c) cs

  module _ {A : Type 0} (reply : S → C → A) where
    abbrev pub replies : S → List C → List A
    replies s [] = []
    replies s (c ∷ cs) = reply s c ∷ replies (move s c) cs

-- the sheet after a history: no ledger and no answer is named in it
unfoldable pub sheet_after : Rules → (territory : ℕ) → List CallWithBook → Sheet
sheet_after R t h = run (Sheet.step R) (blank t) h

-- a machine that keeps a history: a state, and for each call the next state and the answer; its facts are read off the state
pub record Machine : Type 1 where
  pub State : Type 0
  pub start : (territory : ℕ) → State
  pub step : State → CallWithBook → State
  pub answer : State → CallWithBook → Result Answer ℕ
  pub facts : State → Ledger

unfoldable pub state_after : (m : Machine) → (territory : ℕ) → List CallWithBook → m.State
state_after m t h = run m.step (m.start t) h

unfoldable pub answers_to : Machine → (territory : ℕ) → List CallWithBook → List (Result Answer ℕ)
answers_to m t h = replies m.step m.answer (m.start t) h

-- the machine that keeps the ledger's facts as they are
abbrev pub ledger_machine : Rules → Machine
ledger_machine R = record { State = Ledger; start = fresh; step = step R; answer = answer R; facts = λ l. l }

-- the ledger that calls leave, from a fresh one on, with these rows in place of its own
abbrev pub left_with_rows : Rules → (territory : ℕ) → List CallWithBook → List Row → Ledger
left_with_rows R t calls rows = ledger_with_rows (state_after (ledger_machine R) t calls) rows
