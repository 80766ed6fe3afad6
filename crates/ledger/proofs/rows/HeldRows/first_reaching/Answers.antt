-- `first_reaching` halves the rows among which the place is.
use native.Mathlib.Omega.{arith}
use Rattle.ledger.proofs.Search.{search-begins, row-passes, upper-half, search-ends}
use Rattle.ledger.proofs.rows.HeldRows.first_reaching.Goals as goal

pub loop-low-init : goal.loop-low-init
loop-low-init c = (omega arith, search-begins _ _ c.args.self.searched _)

pub loop-low-preserved-then-is_reaching : goal.loop-low-preserved-then-is_reaching
loop-low-preserved-then-is_reaching c =
    (omega arith, row-passes _ _ c.args.self.searched _ _ _ _ c.loop-low.invariant.1 _ c.bill.ensures _ c.is_reaching.ensures (omega arith) c.if-is_reaching.true)

pub loop-low-preserved : goal.loop-low-preserved
loop-low-preserved c =
    (omega arith, upper-half _ _ c.args.self.searched _ _ _ _ _ c.loop-low.invariant.1 _ c.bill.ensures _ c.is_reaching.ensures (omega arith) c.if-is_reaching.false)

pub returns : goal.returns
returns c = search search-ends
