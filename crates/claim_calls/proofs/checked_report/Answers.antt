-- `checked_report` is turned down by 4 or 5, or answers the sums.
use Rattle.std.proofs.lemmas.Result.{err_from_is_err_and}
use Rattle.ledger.proofs.Refusals.{contract-low}
use Rattle.claim_calls.proofs.CallAnswers.{report-refused, report-accepted}
use Rattle.claim_calls.proofs.checked_report.Goals as goal

pub returns-in_err-named_contract : goal.returns-in_err-named_contract
returns-in_err-named_contract c =
    let p = err_from_is_err_and c.from_residual.result c.from_residual.ensures.1 in
    rw (p.1, p.2) (report-refused _ _ _ c.args.held.searched _ c.in_err-named_contract.ensures.refused)

pub accepted_report-requires : goal.accepted_report-requires
accepted_report-requires c = contract-low _ _ c.in_ok-named_contract.ensures.refused

pub returns : goal.returns
returns c = report-accepted _ _ _ c.args.held.searched c.in_ok-named_contract.ensures.refused _ c.accepted_report.ensures
