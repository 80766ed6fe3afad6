-- `check_rows` goes over the slots once: what is found of the rest, with the rows and their amounts so far and the contract and last day of
-- the last row, is what is to be found.
use mathlib.Core.Path.{◌≡◌}
use Rattle.layout.specs.Present.{rules, layout, contracts}
use Rattle.layout.proofs.RowChecks.{Passing}
use Rattle.ledger.proofs.check.check_rows.Given as goal

abbrev pub invariant-loop-i : goal.invariant-loop-i
invariant-loop-i l = Passing rules layout l.b l.i l.before l.last l.due × (l.found ≡ contracts l.b l.before)
