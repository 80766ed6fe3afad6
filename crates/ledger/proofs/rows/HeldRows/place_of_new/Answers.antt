-- `place_of_new` goes over the rows up to the first that sorts after the new one.
use native.Mathlib.Omega.{arith}
use Rattle.model.specs.Ledger.{comes_after}
use Rattle.ledger.proofs.Search.{search-begins, row-passes, row-fails, search-ends}
use Rattle.ledger.proofs.rows.HeldRows.place_of_new.Goals as goal

pub loop-i-init : goal.loop-i-init
loop-i-init c = (omega arith, search-begins _ _ c.args.self.searched _)

pub loop-i-preserved : goal.loop-i-preserved
loop-i-preserved c =
    let test = comes_after c.args.contract c.args.first in
    (omega arith, row-fails _ _ c.args.self.searched test _ _ _ c.loop-i.invariant.1 _ c.bill.ensures _ c.comes_after.ensures (omega arith) (omega arith) c.if-comes_after.false)

pub returns-then-i-self : goal.returns-then-i-self
returns-then-i-self c = search-ends _ (comes_after c.args.contract c.args.first) _ _ c.loop-i.invariant.1 (omega arith)

pub returns-then-comes_after : goal.returns-then-comes_after
returns-then-comes_after c =
    let test = comes_after c.args.contract c.args.first in
    search-ends _ test _ _ (row-passes _ _ c.args.self.searched test _ _ _ c.loop-i.invariant.1 _ c.bill.ensures _ c.comes_after.ensures (omega arith) c.if-comes_after.true) (omega arith)
