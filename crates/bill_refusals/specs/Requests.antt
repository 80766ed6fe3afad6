-- What a bill or rebill asks for, and a held row by its place. Assumes nothing.
use Rattle.std.specs.Prelude.{◌≡◌, List, ℕ, ◌<◌}
use Rattle.rates.specs.declared.Contract.{Contract}
use Rattle.amounts.specs.declared.Bill.{Bill}
use Rattle.model.specs.declared.Request.{Request}
use Rattle.model.specs.OpenContracts.{contract_at}
use Rattle.model.specs.Calls.{named, requested_bill}
use Rattle.model.specs.Places.{place_of}
use Rattle.layout.specs.Present.{Searched, facts, contracts}

-- the contract that a request names, as the ledger has it, and the bill of the request under it
pub record RequestedBill (b : List ℕ) (q : Request) (book : List ℕ) (k : Contract) (x : Bill) : Type 0 where
  pub contract : k ≡ contract_at (contracts b) q.contract
  pub bill : x ≡ requested_bill (contracts b) q book

-- the row with that contract and first day is held, at that place
pub record RowHeld (b : List ℕ) (rows place contract first : ℕ) : Type 0 where
  pub searched : Searched b rows
  pub at : place ≡ place_of (named contract first) (facts b).rows
  pub held : place < rows
