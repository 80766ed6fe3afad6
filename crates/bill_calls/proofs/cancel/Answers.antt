-- `cancel` is turned down by its contract or for want of the row, or the row is removed.
use Rattle.std.proofs.lemmas.Result.{err_from_is_err_and}
use Rattle.bill_calls.proofs.Bills.{cancel-refused, no-row-refused, cancel-accepted}
use Rattle.bill_calls.proofs.cancel.Goals as goal

pub returns-in_err-named_contract : goal.returns-in_err-named_contract
returns-in_err-named_contract c =
    let p = err_from_is_err_and c.from_residual.result c.from_residual.ensures.1 in
    rw (p.1, p.2) (cancel-refused _ _ _ _ c.requires _ c.in_err-named_contract.ensures.refused)

pub returns-in_err-place : goal.returns-in_err-place
returns-in_err-place c =
    let p = err_from_is_err_and c.from_residual-in_err-place.result c.from_residual-in_err-place.ensures.1 in
    rw (p.1, p.2) (no-row-refused _ _ _ _ c.requires c.in_ok-named_contract.ensures.refused _ c.in_err-place.ensures.refused)

pub returns : goal.returns
returns c = cancel-accepted _ _ _ _ c.requires c.in_ok-named_contract.ensures.refused c.in_ok-place.ensures.refused _ _ c.remove_row.ensures
