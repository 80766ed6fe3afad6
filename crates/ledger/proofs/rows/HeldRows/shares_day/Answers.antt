-- `shares_day` is the test of the first of the rows from row i on.
use mathlib.Core.Path.{◌∙◌}
use borrow.Author.Tests.{le-ltb}
use Rattle.ledger.proofs.Search.{first-none, first-there}
use Rattle.ledger.proofs.rows.HeldRows.shares_day.Goals as goal

pub returns-then-i-self : goal.returns-then-i-self
returns-then-i-self c = first-there _ _ c.args.self.searched _ _ _ c.bill.ensures c.if-i-self.true _ c.is_sharing.ensures

pub returns-else-i-self : goal.returns-else-i-self
returns-else-i-self c = le-ltb _ _ c.if-i-self.false ∙ first-none _ _ c.args.self.searched _ _ c.if-i-self.false
