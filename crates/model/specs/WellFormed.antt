-- Document 01, "Well formed", of the ledger's facts: what a call finds and leaves. Assumes nothing.
use Rattle.std.specs.Prelude.{◌≡◌, true, List, [], ◌∷◌, ℕ, ◌+◌, ◌*◌, ◌^◌, ◌≤◌, ◌<◌, length, None}
use Rattle.limits.specs.Limits.{row_count, most_claims, day_values}
use Rattle.basics.specs.Lists.{All}
use Rattle.model.specs.declared.Row.{Row}
use Rattle.model.specs.OpenContracts.{Contracts, contract_at, contract_of, is_open}
use Rattle.model.specs.Rules.{Rules, part_of_due}
use Rattle.model.specs.Ledger.{Ledger}

-- a held row: its contract is open, it keeps the ranges, and its amount is its part of due
pub record RowOk (R : Rules) (cs : Contracts) (x : Row) : Type 0 where
  pub number : x.bill.contract < R.contract_limit
  pub is_opened : is_open cs x.bill.contract ≡ true
  pub ranges : R.bill_ok (contract_of cs x.bill) x.bill ≡ true
  pub part : x.amount ≡ part_of_due R cs x.bill

-- contract and day as one number: a row comes before another if its last day does before the other's first.
-- Days are below 1,024, so this is the order by contract and first day, and no two rows of a contract share a day
unfoldable pub before : Row → Row → Type 0
before x y = x.bill.contract * day_values + x.bill.last < y.bill.contract * day_values + y.bill.first

abbrev pub Apart : List Row → Type 0
Apart [] = Unit {0}
Apart (x ∷ xs) = All (before x) xs × Apart xs

pub record WellFormed (R : Rules) (l : Ledger) : Type 0 where
  pub territory : l.territory ≤ 1
  pub claims : l.claims ≤ most_claims
  pub pence : l.pence < 2 ^ 47
  pub unclaimed : l.claims ≡ 0 → l.pence ≡ 0
  pub numbers : (c : ℕ) → R.contract_limit ≤ c → l.contracts c ≡ None
  pub contracts : (c : ℕ) → is_open l.contracts c ≡ true → R.contract_ok l.territory (contract_at l.contracts c) ≡ true
  pub count : length l.rows ≤ row_count
  pub rows : All (RowOk R l.contracts) l.rows
  pub apart : Apart l.rows
