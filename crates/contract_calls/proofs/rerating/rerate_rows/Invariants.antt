-- `rerate_rows` re-rates one row of the contract after the other.
use Rattle.contract_calls.proofs.RowsRerating.{Passed}
use Rattle.contract_calls.proofs.rerating.rerate_rows.Given as goal

abbrev pub invariant-loop-i : goal.invariant-loop-i
invariant-loop-i l = Passed l.initial.b l.contract l.certified l.i l.b l.sums
