-- `bill` reads a held row.
use Rattle.ledger.proofs.EachRow.{row_inside}
use Rattle.ledger.proofs.rows.HeldRows.bill.Goals as goal

pub row_at-requires : goal.row_at-requires
row_at-requires c = row_inside _ _ _ c.args.self.searched c.requires
