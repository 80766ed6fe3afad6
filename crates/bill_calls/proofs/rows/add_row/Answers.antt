-- `add_row` puts the row in at its place, and answers R, rate and amount.
use Rattle.bill_calls.proofs.RowChanges.{row-rateable, insertable, row-added}
use Rattle.bill_calls.proofs.rows.add_row.Goals as goal

pub amount-requires : goal.amount-requires
amount-requires c = search row-rateable

pub insert_row-requires : goal.insert_row-requires
insert_row-requires c = search insertable

pub returns : goal.returns
returns c = search row-added
