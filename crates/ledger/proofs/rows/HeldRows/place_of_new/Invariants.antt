-- `place_of_new` goes over the rows up to the first that sorts after the new one.
use Prim.Native.Nat.{◌-◌, ◌≤◌}
use Rattle.model.specs.Ledger.{comes_after}
use Rattle.ledger.proofs.Search.{Between}
use Rattle.ledger.proofs.rows.HeldRows.place_of_new.Given as goal

abbrev pub invariant-loop-i : goal.invariant-loop-i
invariant-loop-i l = (l.i ≤ l.self.count) × Between l.self.bytes.now (comes_after l.contract l.first) l.i l.self.count

abbrev pub decreases-loop-i : goal.decreases-loop-i
decreases-loop-i l = l.self.count - l.i
