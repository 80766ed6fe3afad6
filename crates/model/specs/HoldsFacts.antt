-- Demand 2: the ledger holds exactly the accepted facts, after every history. Assumes nothing.
use Rattle.std.specs.Prelude.{◌≡◌, Bool, ℕ, ◌≤◌, pos, Result}
use mathlib.Core.List.{List, Memᴰ}
use Rattle.basics.specs.Lists.{count}
use Rattle.basics.specs.Integers.{sumℤ}
use Rattle.model.specs.declared.Row.{Row}
use Rattle.model.specs.declared.Answer.{Answer}
use Rattle.model.specs.Calls.{CallWithBook, claim_pence}
use Rattle.model.specs.Rules.{Rules, part_of_due, standing_row}
use Rattle.model.specs.Ledger.{Ledger}
use Rattle.model.specs.Sheet.{Sheet}
use Rattle.model.specs.History.{Machine, sheet_after, state_after, answers_to}

-- what the sheet after a history, and the answers to its calls, say of the facts held
pub record HoldsFacts (R : Rules) (sheet : Sheet) (answered : List (Result Answer ℕ)) (facts : Ledger) : Type 0 where
  pub territory : facts.territory ≡ sheet.territory
  -- the open contracts with their certificates
  pub contracts : facts.contracts ≡ sheet.contracts
  -- the held rows are the rows of the standing bills, each as often: as many of the ones as of the others pass any test
  pub rows : (p : Row → Bool) → count p facts.rows ≡ count (λ b. p (standing_row R sheet.contracts b)) sheet.bills
  -- so nothing else is held: each held row's bill stands, and its amount is its part of due
  pub standing : (x : Row) → Memᴰ x facts.rows → Memᴰ x.bill sheet.bills × (x.amount ≡ part_of_due R sheet.contracts x.bill)
  pub claims : facts.claims ≡ sheet.claims
  -- the net pence: the sum of the pence that the claims answered
  pub pence : pos facts.pence ≡ sumℤ claim_pence answered

-- of a machine: from a fresh ledger of either territory, every list of calls
abbrev pub EveryHistoryHoldsItsFacts : Rules → Machine → Type 0
EveryHistoryHoldsItsFacts R m = (territory : ℕ) → territory ≤ 1 → (h : List CallWithBook) →
    HoldsFacts R (sheet_after R territory h) (answers_to m territory h) (m.facts (state_after m territory h))
