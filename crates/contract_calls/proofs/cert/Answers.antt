-- `cert` is turned down, or the contract's rows are re-rated and the contract is written; it answers the difference of the sums.
use Rattle.std.proofs.lemmas.Result.{err_from_is_err_and}
use Rattle.signed.proofs.SignedDifferences.{signed-read}
use Rattle.contract_calls.proofs.ContractAnswers.{not-certified, certified-number, certified-terms, certified-fits, new-sum-low, old-sum-low, certified}
use Rattle.contract_calls.proofs.cert.Goals as goal

pub returns-in_err-found : goal.returns-in_err-found
returns-in_err-found c =
    let p = err_from_is_err_and c.from_residual.result c.from_residual.ensures.1 in
    rw (p.1, p.2) (not-certified _ _ _ _ _ c.requires _ c.in_err-found.ensures.refused)

pub rerate_rows-rerated-requires : goal.rerate_rows-rerated-requires
rerate_rows-rerated-requires c = certified-terms _ _ _ _ _ c.requires c.in_ok-found.ensures.refused _ _ c.in_ok-found.ensures.found c.certify-certified.ensures

pub write_contract-requires-clause-inside : goal.write_contract-requires-clause-inside
write_contract-requires-clause-inside c = certified-number _ _ _ _ _ c.requires c.in_ok-found.ensures.refused

pub write_contract-requires-clause-fits : goal.write_contract-requires-clause-fits
write_contract-requires-clause-fits c = certified-fits _ _ _ _ _ c.requires c.in_ok-found.ensures.refused _ _ c.in_ok-found.ensures.found c.certify-certified.ensures

pub difference-requires : goal.difference-requires
difference-requires c = (
  new-sum-low _ _ _ _ _ c.requires c.in_ok-found.ensures.refused _ _ c.in_ok-found.ensures.found c.certify-certified.ensures _ _ c.rerate_rows-rerated.ensures,
  old-sum-low _ _ _ _ _ c.requires c.in_ok-found.ensures.refused _ _ c.in_ok-found.ensures.found c.certify-certified.ensures _ _ c.rerate_rows-rerated.ensures,
)

pub returns : goal.returns
returns c =
    let change = signed-read _ _ (record { sfits = c.difference.type_inv }) c.difference.ensures in
    certified _ _ _ _ _ c.requires c.in_ok-found.ensures.refused _ _ c.in_ok-found.ensures.found c.certify-certified.ensures _ _ c.rerate_rows-rerated.ensures _ _ c.write_contract.ensures change
