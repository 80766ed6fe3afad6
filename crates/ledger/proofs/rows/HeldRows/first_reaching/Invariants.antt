-- `first_reaching` halves the rows among which the place is.
use Prim.Native.Nat.{◌-◌, ◌≤◌}
use Rattle.model.specs.Places.{reaches}
use Rattle.ledger.proofs.Search.{Between}
use Rattle.ledger.proofs.rows.HeldRows.first_reaching.Given as goal

abbrev pub invariant-loop-low : goal.invariant-loop-low
invariant-loop-low l = (l.high ≤ l.self.count) × Between l.self.bytes.now (reaches l.contract l.day) l.low l.high

abbrev pub decreases-loop-low : goal.decreases-loop-low
decreases-loop-low l = l.high - l.low
