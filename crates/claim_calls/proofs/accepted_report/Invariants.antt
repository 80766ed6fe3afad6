-- `accepted_report` adds up the rows of the contract, one after the other.
use Rattle.claim_calls.proofs.ReportSums.{ReportedTo}
use Rattle.claim_calls.proofs.accepted_report.Given as goal

abbrev pub invariant-loop-i : goal.invariant-loop-i
invariant-loop-i l = ReportedTo l.held.bytes.now l.contract l.i l.count l.kwh l.due
