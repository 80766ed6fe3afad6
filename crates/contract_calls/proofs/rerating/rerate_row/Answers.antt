-- `rerate_row` writes the new amount of a row whose amount changes.
use Rattle.contract_calls.proofs.RowRerating.{amount-changes}
use Rattle.contract_calls.proofs.rerating.rerate_row.Goals as goal

pub returns : goal.returns
returns c = search amount-changes
