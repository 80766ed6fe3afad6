-- `ends_after` looks at the first row that reaches the day after.
use mathlib.Core.Path.{◌∙◌}
use borrow.Author.Tests.{le-ltb}
use Rattle.ledger.proofs.Search.{none-ends, first_ends}
use Rattle.ledger.proofs.rows.HeldRows.ends_after.Goals as goal

pub returns-then-place-self : goal.returns-then-place-self
returns-then-place-self c = first_ends _ _ c.args.self.searched _ _ _ c.first_reaching-place.ensures _ c.bill.ensures c.if-place-self.true _ c.is_ending_after.ensures

pub returns-else-place-self : goal.returns-else-place-self
returns-else-place-self c = le-ltb _ _ c.if-place-self.false ∙ none-ends _ _ c.args.self.searched _ _ _ c.first_reaching-place.ensures c.if-place-self.false
