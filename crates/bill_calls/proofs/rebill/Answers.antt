-- `rebill` is turned down by its request or by its row, or its row is put in place of the old one.
use Rattle.std.proofs.lemmas.Result.{err_from_is_err_and}
use Rattle.bill_calls.proofs.Bills.{contract-of, rebill-request-refused, rebill-row-refused, row-again-of, rebill-accepted}
use Rattle.bill_calls.proofs.rebill.Goals as goal

pub returns-in_err-contract : goal.returns-in_err-contract
returns-in_err-contract c =
    let p = err_from_is_err_and c.from_residual.result c.from_residual.ensures.1 in
    rw (p.1, p.2) (rebill-request-refused _ _ _ _ c.requires.formed c.in_err-contract.ensures.refused)

pub place_again-requires : goal.place_again-requires
place_again-requires c = contract-of _ _ _ _ _ c.in_ok-contract.ensures.refused c.in_ok-contract.ensures.requested

pub returns-in_err-place : goal.returns-in_err-place
returns-in_err-place c =
    let p = err_from_is_err_and c.from_residual-in_err-place.result c.from_residual-in_err-place.ensures.1 in
    rw (p.1, p.2) (rebill-row-refused _ _ _ _ _ c.in_ok-contract.ensures.refused c.in_ok-contract.ensures.requested _ c.requires.formed c.in_err-place.ensures.refused)

pub replace_row-requires : goal.replace_row-requires
replace_row-requires c = row-again-of _ _ _ _ _ c.in_ok-contract.ensures.refused c.in_ok-contract.ensures.requested _ _ c.requires c.in_ok-place.ensures.refused c.in_ok-place.ensures.placed

pub returns : goal.returns
returns c =
    rebill-accepted _ _ _ _ _ c.in_ok-contract.ensures.refused c.in_ok-contract.ensures.requested _ _ c.requires c.in_ok-place.ensures.refused c.in_ok-place.ensures.placed _ _ c.replace_row.ensures
