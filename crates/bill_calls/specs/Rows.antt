-- A bill's row among the held rows: what is given where it is added, put in place of another or removed, and what is then answered and
-- left. Assumes nothing.
use Rattle.std.specs.Prelude.{◌≡◌, List, ℕ, ◌<◌}
use Rattle.std.proofs.Math.IntN.{sub_ℕ}
use Rattle.limits.specs.Limits.{row_count}
use Rattle.rates.specs.declared.Contract.{Contract}
use Rattle.amounts.specs.declared.Bill.{Bill}
use Rattle.amounts.specs.Amounts.{rate, amount, by_terms}
use Rattle.model.specs.declared.Answer.{Answer}
use Rattle.model.specs.declared.Answer.TheVariants.{Billed, Rebilled, Cancelled}
use Rattle.model.specs.Calls.{named}
use Rattle.model.specs.Ledger.{Ledger, comes_after, insert, replace, remove, amount_of, priced, ledger_with_rows}
use Rattle.model.specs.Places.{place_of}
use Rattle.model.specs.WellFormed.{RowOk}
use Rattle.layout.specs.Present.{Searched, rules, facts, contracts, bytes}
use Rattle.bill_refusals.specs.Requests.{RowHeld}

-- the row of a bill keeps what a well-formed ledger asks, and there is room for it at that place
pub record NewRow (b : List ℕ) (rows place : ℕ) (k : Contract) (x : Bill) : Type 0 where
  pub searched : Searched b rows
  pub row : RowOk rules (contracts b) (priced rules k x)
  pub at : place ≡ place_of (comes_after x.contract x.first) (facts b).rows
  pub room : rows < row_count

-- the row of a bill keeps what a well-formed ledger asks, and one with its contract and first day is held at that place
pub record RowAgain (b : List ℕ) (rows place : ℕ) (k : Contract) (x : Bill) : Type 0 where
  pub row : RowOk rules (contracts b) (priced rules k x)
  pub old : RowHeld b rows place x.contract x.first

-- what a change answers, and the bytes that it leaves
pub record Changed (said : Answer) (after : List ℕ) (answer : Answer) (next : Ledger) : Type 0 where
  pub answered : said ≡ answer
  pub left : after ≡ bytes next

-- the answers, and the facts left
abbrev pub billed : Contract → Bill → Answer
billed k x = Billed x.reference (by_terms rate k x) (by_terms amount k x)

abbrev pub row_added : Ledger → Contract → Bill → Ledger
row_added l k x = ledger_with_rows l (insert (priced rules k x) l.rows)

abbrev pub rebilled : Ledger → Contract → Bill → Answer
rebilled l k x = Rebilled x.reference (by_terms rate k x) (sub_ℕ (by_terms amount k x) (amount_of (named x.contract x.first) l.rows))

abbrev pub row_replaced : Ledger → Contract → Bill → Ledger
row_replaced l k x = ledger_with_rows l (replace (named x.contract x.first) (priced rules k x) l.rows)

abbrev pub cancelled : Ledger → (contract first : ℕ) → Answer
cancelled l c first = Cancelled (sub_ℕ 0 (amount_of (named c first) l.rows))

abbrev pub row_removed : Ledger → (contract first : ℕ) → Ledger
row_removed l c first = ledger_with_rows l (remove (named c first) l.rows)
