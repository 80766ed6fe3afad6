-- An example of a stored ledger with rows of bills that the rules in force would turn down: well formed, balanced, and with its answers to calls.
-- Assumes nothing.
use Rattle.std.specs.Prelude.{◌≡◌, List, ℕ, Result}
use Rattle.model.specs.declared.Answer.{Answer}
use Rattle.model.specs.Calls.{CallWithBook}
use Rattle.model.specs.PresentRules.{present_rules}
use Rattle.model.specs.Ledger.{Ledger, step, answer}
use Rattle.model.specs.History.{replies, ledger_machine}
use Rattle.model.specs.WellFormed.{WellFormed}
use Rattle.model.specs.Balance.{BalancedIn, sheet_of}

-- a stored ledger, what its earlier bills answered, and calls on it with their answers
pub record StoredExample (stored : Ledger) (earlier : List (Result Answer ℕ)) (calls : List CallWithBook) (replied : List (Result Answer ℕ)) : Type 0 where
  pub well_formed : WellFormed present_rules stored
  -- it balances, so that it goes on balancing whatever calls follow
  pub balanced : BalancedIn present_rules (ledger_machine present_rules) stored (sheet_of stored) earlier
  pub answers : replies (step present_rules) (answer present_rules) stored calls ≡ replied
