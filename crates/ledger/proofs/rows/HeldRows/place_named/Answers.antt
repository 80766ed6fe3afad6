-- `place_named` looks at the first row that reaches the day.
use Rattle.ledger.proofs.Search.{named_none, named-there, named_other}
use Rattle.ledger.proofs.rows.HeldRows.place_named.Goals as goal
use Rattle.ledger.proofs.rows.HeldRows.place_named.Goals.{else-place-self-via-then-place-self+else-is_named, else-place-self-via-else-place-self}

pub returns-then-is_named-clause-place : goal.returns-then-is_named-clause-place
returns-then-is_named-clause-place c =
    named-there _ _ c.args.self.searched _ _ _ c.first_reaching-place.ensures c.if-place-self.true _ c.bill.ensures _ c.is_named.ensures c.if-is_named.true

pub returns-else-place-self-clause-place : goal.returns-else-place-self-clause-place
returns-else-place-self-clause-place c = elim c.else-place-self.branch [
  | else-place-self-via-then-place-self+else-is_named w ↦
      named_other _ _ c.args.self.searched _ _ _ c.first_reaching-place.ensures w.if-place-self.true _ w.bill.ensures _ w.is_named.ensures w.if-is_named.false
  | else-place-self-via-else-place-self w ↦ named_none _ _ c.args.self.searched _ _ _ c.first_reaching-place.ensures w.if-place-self.false
]
