-- `replace_row` puts the row in place of the old one, and answers R, rate and the difference.
use Rattle.signed.proofs.SignedDifferences.{signed-read}
use Rattle.bill_calls.proofs.RowChanges.{row-rateable, held-inside, replaceable, new-amount-low, old-amount-low, row-replaced}
use Rattle.bill_calls.proofs.rows.replace_row.Goals as goal

pub amount-requires : goal.amount-requires
amount-requires c = search row-rateable

pub row_at-old-requires : goal.row_at-old-requires
row_at-old-requires c = search held-inside

pub replace_row-requires : goal.replace_row-requires
replace_row-requires c = search replaceable

pub difference-requires : goal.difference-requires
difference-requires c = search (new-amount-low, old-amount-low)

pub returns : goal.returns
returns c = let change = signed-read _ _ (record { sfits = c.difference.type_inv }) c.difference.ensures in search row-replaced
