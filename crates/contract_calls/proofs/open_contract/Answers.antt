-- `open_contract` is turned down, or the contract is written under its number.
use Rattle.std.proofs.lemmas.Result.{err_from_is_err_and}
use Rattle.contract_calls.proofs.ContractAnswers.{not-opened, opened-number, opened-fits, opened}
use Rattle.contract_calls.proofs.open_contract.Goals as goal

pub returns-in_err-refuse_open : goal.returns-in_err-refuse_open
returns-in_err-refuse_open c =
    let p = err_from_is_err_and c.from_residual.result c.from_residual.ensures.1 in
    rw (p.1, p.2) (not-opened _ _ _ _ _ _ c.requires _ c.in_err-refuse_open.ensures)

pub write_contract-requires-clause-inside : goal.write_contract-requires-clause-inside
write_contract-requires-clause-inside c = opened-number _ _ _ _ _ _ c.requires c.in_ok-refuse_open.ensures

pub write_contract-requires-clause-fits : goal.write_contract-requires-clause-fits
write_contract-requires-clause-fits c = opened-fits _ _ _ _ _ _ c.requires c.in_ok-refuse_open.ensures _ c.opening-opened.ensures

pub returns : goal.returns
returns c = opened _ _ _ _ _ _ c.requires c.in_ok-refuse_open.ensures _ c.opening-opened.ensures _ c.write_contract.ensures
