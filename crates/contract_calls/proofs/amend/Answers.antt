-- `amend` is turned down, or the contract is written with its amendment.
use Rattle.std.proofs.lemmas.Result.{err_from_is_err_and}
use Rattle.contract_calls.proofs.ContractAnswers.{not-amended, amended-number, amended-fits, amended}
use Rattle.contract_calls.proofs.amend.Goals as goal

pub returns-in_err-found : goal.returns-in_err-found
returns-in_err-found c =
    let p = err_from_is_err_and c.from_residual.result c.from_residual.ensures.1 in
    rw (p.1, p.2) (not-amended _ _ _ c.args.amendment c.requires _ c.in_err-found.ensures.refused)

pub write_contract-requires-clause-inside : goal.write_contract-requires-clause-inside
write_contract-requires-clause-inside c = amended-number _ _ _ c.args.amendment c.requires c.in_ok-found.ensures.refused

pub write_contract-requires-clause-fits : goal.write_contract-requires-clause-fits
write_contract-requires-clause-fits c = amended-fits _ _ _ c.args.amendment c.requires c.in_ok-found.ensures.refused _ _ c.in_ok-found.ensures.found c.amended.ensures

pub returns : goal.returns
returns c = amended _ _ _ c.args.amendment c.requires c.in_ok-found.ensures.refused _ _ c.in_ok-found.ensures.found c.amended.ensures _ c.write_contract.ensures
