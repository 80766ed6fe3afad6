-- Document 02, paper 6: "Bill and rebill now take at most 40,000,000, refused by 8 as before." What a call may give, and that no call makes a larger
-- row. Assumes nothing.
use Rattle.std.specs.Prelude.{◌≡◌, true, ℕ, ◌<◌, ◌≤◌}
use mathlib.Core.List.{List, map, Memᴰ}
use Rattle.limits.specs.Limits.{most_kwh_given}
use Rattle.basics.specs.Lists.{All}
use Rattle.rates.specs.declared.Contract.{Contract}
use Rattle.model.specs.declared.Call.{Call}
use Rattle.model.specs.declared.Request.{Request}
use Rattle.model.specs.Calls.{CallWithBook, View}
use Rattle.model.specs.PresentRules.{bad_amounts}
use Rattle.model.specs.History.{run, Machine, state_after}
use Rattle.model.specs.AcceptedCalls.{Accepted}

-- what is accepted gives at most 40,000,000 kWh, and more fits the test of number 8, whatever else is given
pub record LargestBill : Type 0 where
  pub bills : (v : View) (q : Request) (book : List ℕ) → Accepted v (Call.Bill q) book → q.kwh ≤ most_kwh_given
  pub rebills : (v : View) (q : Request) (book : List ℕ) → Accepted v (Call.Rebill q) book → q.kwh ≤ most_kwh_given
  pub larger : (k : Contract) (q : Request) → most_kwh_given < q.kwh → bad_amounts k q ≡ true

-- of a machine, from any good state on: each row of more than 40,000,000 kWh that is held after a list of calls has the bill of a row that was held
-- before it
abbrev pub LargerRowsStoodBefore : (m : Machine) → (good : m.State → Type 0) → Type 0
LargerRowsStoodBefore m good = (s : m.State) → good s → (h : List CallWithBook) →
    All (λ x. most_kwh_given < x.bill.kwh → Memᴰ x.bill (map (λ y. y.bill) (m.facts s).rows)) (m.facts (run m.step s h)).rows

-- and after a history, from a fresh ledger of either territory on, no row has more
abbrev pub NoLargerRow : Machine → Type 0
NoLargerRow m = (territory : ℕ) → territory ≤ 1 → (h : List CallWithBook) → All (λ x. x.bill.kwh ≤ most_kwh_given) (m.facts (state_after m territory h)).rows
