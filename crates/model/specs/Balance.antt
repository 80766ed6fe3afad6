-- Demand 3: every history balances, and a stored ledger that balances goes on balancing. Assumes nothing.
use Rattle.std.specs.Prelude.{◌≡◌, ℕ, ◌<◌, ◌≤◌, ℤ, pos, ◌+ℤ◌, ◌*ℤ◌, Result, Ok}
use mathlib.Core.List.{List, [], ◌∷◌, ◌++◌, map, Memᴰ}
use Rattle.limits.specs.Limits.{ticks_per_penny}
use Rattle.basics.specs.Integers.{sumℤ}
use Rattle.amounts.specs.declared.Bill.{Bill}
use Rattle.model.specs.declared.Row.{Row}
use Rattle.model.specs.declared.Answer.{Answer}
use Rattle.model.specs.declared.Answer.TheVariants.{Claimed, Totalled}
use Rattle.model.specs.OpenContracts.{contract_of}
use Rattle.model.specs.declared.Call.{Call}
use Rattle.model.specs.Calls.{CallWithBook, customer_amount, claim_pence, ◌with◌}
use Rattle.model.specs.Rules.{Rules, part_of_due, standing_row}
use Rattle.model.specs.Ledger.{Ledger}
use Rattle.model.specs.Sheet.{Sheet, due, step}
use Rattle.model.specs.History.{run, replies, Machine, sheet_after, state_after, answers_to}

-- what is claimed of the sheet after a history, of the answers to its calls, of the answer to a total called next, and of the rows held
pub record Balanced (R : Rules) (sheet : Sheet) (answered : List (Result Answer ℕ)) (next : Result Answer ℕ) (held : List Row) : Type 0 where
  -- the customers' signed amounts add up to due
  pub customers : sumℤ customer_amount answered ≡ pos (due R sheet)
  -- a total called next answers due and an unclaimed amount
  pub unclaimed : ℤ
  pub total : next ≡ Ok (Totalled (due R sheet) unclaimed)
  -- 10,000 times the sum of the pence that the claims answered, plus the unclaimed amount, equals due
  pub claims : pos ticks_per_penny *ℤ sumℤ claim_pence answered +ℤ unclaimed ≡ pos (due R sheet)
  -- if the last call is an accepted claim, the unclaimed amount is 0 to 9,999
  pub claimed : (before : List (Result Answer ℕ)) (pence : ℤ) (rest : ℕ) → answered ≡ before ++ (Ok (Claimed pence rest) ∷ []) → (u : ℕ) × (unclaimed ≡ pos u) × (u < ticks_per_penny)
  -- for each standing bill the ledger holds its part of due as its amount, and that part is at most its cap
  pub rows : (b : Bill) → Memᴰ b sheet.bills → Memᴰ (standing_row R sheet.contracts b) held
  pub capped : (b : Bill) → Memᴰ b sheet.bills → part_of_due R sheet.contracts b ≤ R.cap (contract_of sheet.contracts b) b

-- the same of a machine's state, with the total called next and the rows held there
abbrev pub BalancedIn : Rules → (m : Machine) → m.State → Sheet → List (Result Answer ℕ) → Type 0
BalancedIn R m s sheet answered = Balanced R sheet answered (m.answer s (Call.Total with [])) (m.facts s).rows

-- demand 3, of a machine: from a fresh ledger of either territory, every list of calls
abbrev pub EveryHistoryBalances : Rules → Machine → Type 0
EveryHistoryBalances R m = (territory : ℕ) → territory ≤ 1 → (h : List CallWithBook) →
    BalancedIn R m (state_after m territory h) (sheet_after R territory h) (answers_to m territory h)

-- the sheet of a ledger's facts: its rows' bills
unfoldable pub sheet_of : Ledger → Sheet
sheet_of l = record { territory = l.territory; contracts = l.contracts; bills = map (λ x. x.bill) l.rows; claims = l.claims }

-- from any good state that balances, on the sheet of its own facts, with the answers to its earlier calls: every list of calls
abbrev pub StoredBalanceGoesOn : Rules → (m : Machine) → (good : m.State → Type 0) → Type 0
StoredBalanceGoesOn R m good = (s : m.State) → good s → (earlier : List (Result Answer ℕ)) → BalancedIn R m s (sheet_of (m.facts s)) earlier → (h : List CallWithBook) →
    BalancedIn R m (run m.step s h) (run (step R) (sheet_of (m.facts s)) h) (earlier ++ replies m.step m.answer s h)
