-- `remove_row` takes the row out, and answers minus its amount.
use native.Mathlib.Omega.{arith}
use Rattle.signed.proofs.SignedDifferences.{signed-read}
use Rattle.bill_calls.proofs.RowChanges.{held-inside, removable, old-amount-low, row-removed}
use Rattle.bill_calls.proofs.rows.remove_row.Goals as goal

pub row_at-old-requires : goal.row_at-old-requires
row_at-old-requires c = search held-inside

pub remove_row-requires : goal.remove_row-requires
remove_row-requires c = search removable

pub difference-requires : goal.difference-requires
difference-requires c = (omega arith, search old-amount-low)

pub returns : goal.returns
returns c = let change = signed-read _ _ (record { sfits = c.difference.type_inv }) c.difference.ensures in search row-removed
