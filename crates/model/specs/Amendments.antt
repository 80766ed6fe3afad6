-- Document 02, paper 5: an amend "alters no row", and changes no bill's part of due: after every history, accepted or turned down. Assumes
-- nothing.
use Rattle.std.specs.Prelude.{◌≡◌, List, ℕ, ◌≤◌}
use Rattle.basics.specs.Lists.{All}
use Rattle.model.specs.declared.Call.{Call}
use Rattle.model.specs.Calls.{CallWithBook, ◌with◌}
use Rattle.model.specs.Rules.{Rules, part_of_due}
use Rattle.model.specs.Sheet.{Sheet, step, due}
use Rattle.model.specs.History.{sheet_after}

-- of the sheet before and after: the bills that stand, the part of each, and so due
pub record PartsKept (R : Rules) (before after : Sheet) : Type 0 where
  pub bills : after.bills ≡ before.bills
  pub parts : All (λ b. part_of_due R after.contracts b ≡ part_of_due R before.contracts b) before.bills
  pub dues : due R after ≡ due R before

-- from a blank sheet of either territory, every list of calls, and then any amend
abbrev pub EveryAmendKeepsParts : Rules → Type 0
EveryAmendKeepsParts R = (territory : ℕ) → territory ≤ 1 → (h : List CallWithBook) (c end fix entry : ℕ) (book : List ℕ) →
    PartsKept R (sheet_after R territory h) (step R (sheet_after R territory h) (Call.Amend c end fix entry with book))
