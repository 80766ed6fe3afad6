-- `contract` reads the first bit of the contract's slot, and the contract where it is open.
use Rattle.ledger.proofs.RowTests.{not_open, open-there}
use Rattle.ledger.proofs.contracts.contract.Goals as goal

pub returns-then-is_open : goal.returns-then-is_open
returns-then-is_open c = search open-there

pub returns-else-is_open : goal.returns-else-is_open
returns-else-is_open c = search not_open
