-- `row_ok` is the test of a row under its contract: its amount is asked for where its bill keeps the ranges.
use mathlib.Core.Path.{sym, ◌∙◌}
use Rattle.ledger.proofs.RowTests.{rateable}
use Rattle.ledger.proofs.check.row_ok.Goals as goal

pub is_amount-requires : goal.is_amount-requires
is_amount-requires c = rateable c.args.row _ (sym c.bill_ok.ensures ∙ c.if-bill_ok.true)
