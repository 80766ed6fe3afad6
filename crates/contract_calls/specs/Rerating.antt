-- Document 01, "Calls": cert re-rates the contract's rows. What is needed of a row's slot, and what is found and left of one row and of
-- all. Assumes nothing.
use Rattle.std.specs.Prelude.{◌≡◌, Bool, true, not, cond, List, map, ℕ, ◌<◌, eqb}
use Rattle.limits.specs.Limits.{contract_count, row_count}
use Rattle.basics.specs.Lists.{total, count}
use Rattle.records.specs.Edits.{replace_at}
use Rattle.records.specs.OneSlot.{record_bytes, IsPacked}
use Rattle.rates.specs.declared.Contract.{Contract}
use Rattle.amounts.specs.Amounts.{has_shares, amount, Rateable, by_terms}
use Rattle.model.specs.declared.Row.{Row}
use Rattle.model.specs.OpenContracts.{contract_at}
use Rattle.model.specs.Ledger.{of_contract, rerated, ledger_with_rows}
use Rattle.layout.specs.PresentLayout.{row_record}
use Rattle.layout.specs.Offsets.{row_start, row_part}
use Rattle.layout.specs.Present.{rules, facts, contracts, bytes, row_at, Searched}
use Rattle.contract_calls.specs.declared.rerating.Rerated.{Rerated}

-- a well-formed ledger with that many rows, the number of a contract, and a contract that differs from that one in the certificate alone
pub record Rerateable (b : List ℕ) (rows contract : ℕ) (certified : Contract) : Type 0 where
  pub searched : Searched b rows
  pub number : contract < contract_count
  pub fuel : certified.fuel ≡ (contract_at (contracts b) contract).fuel
  pub kind : certified.kind ≡ (contract_at (contracts b) contract).kind
  pub amendment : certified.amendment ≡ (contract_at (contracts b) contract).amendment

-- slot i holds a row of the contract that can be rated, and whose amount stays under the certified contract where it has shares
pub record RowInSlot (b : List ℕ) (i contract : ℕ) (certified : Contract) : Type 0 where
  pub inside : i < row_count
  pub packed : IsPacked row_record (row_part b i)
  pub own : (row_at b i).bill.contract ≡ contract
  pub rateable : Rateable (row_at b i).bill
  pub set_aside : has_shares (row_at b i).bill ≡ true → by_terms amount certified (row_at b i).bill ≡ (row_at b i).amount

module _ (contract : ℕ) (certified : Contract) where
  -- a row's amount under the certified contract, where it is a row of the contract
  abbrev pub new_amount : Row → ℕ
  new_amount x = (rerated rules contract certified x).amount

  -- whether that is another amount
  abbrev pub amount_changes : Row → Bool
  amount_changes x = not (eqb (new_amount x) x.amount)

  -- row i: its old and its new amount, 1 where they differ, and the bytes with the row re-rated
  pub record RowRerated (b : List ℕ) (i : ℕ) (found : Rerated) (after : List ℕ) : Type 0 where
    pub old : found.old ≡ (row_at b i).amount
    pub new : found.new ≡ new_amount (row_at b i)
    pub changed : found.changed ≡ cond (amount_changes (row_at b i)) 1 0
    pub left : after ≡ replace_at (row_start i) (record_bytes row_record (rerated rules contract certified (row_at b i))) b

  -- the rows of the contract: the sums of their old and new amounts, how many differ, and the bytes with the rows re-rated
  pub record RowsRerated (b : List ℕ) (found : Rerated) (after : List ℕ) : Type 0 where
    pub old : found.old ≡ total (λ x. cond (of_contract contract x) x.amount 0) (facts b).rows
    pub new : found.new ≡ total (λ x. cond (of_contract contract x) (new_amount x) 0) (facts b).rows
    pub changed : found.changed ≡ count amount_changes (facts b).rows
    pub left : after ≡ bytes (ledger_with_rows (facts b) (map (rerated rules contract certified) (facts b).rows))
