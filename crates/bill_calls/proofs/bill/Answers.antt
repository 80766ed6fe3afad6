-- `bill` is turned down by its request or by its row, or its row is added.
use Rattle.std.proofs.lemmas.Result.{err_from_is_err_and}
use Rattle.bill_calls.proofs.Bills.{contract-of, bill-request-refused, bill-row-refused, new-row-of, bill-accepted}
use Rattle.bill_calls.proofs.bill.Goals as goal

pub returns-in_err-contract : goal.returns-in_err-contract
returns-in_err-contract c =
    let p = err_from_is_err_and c.from_residual.result c.from_residual.ensures.1 in
    rw (p.1, p.2) (bill-request-refused _ _ _ _ c.requires.formed c.in_err-contract.ensures.refused)

pub new_place-requires : goal.new_place-requires
new_place-requires c = contract-of _ _ _ _ _ c.in_ok-contract.ensures.refused c.in_ok-contract.ensures.requested

pub returns-in_err-place : goal.returns-in_err-place
returns-in_err-place c =
    let p = err_from_is_err_and c.from_residual-in_err-place.result c.from_residual-in_err-place.ensures.1 in
    rw (p.1, p.2) (bill-row-refused _ _ _ _ _ c.in_ok-contract.ensures.refused c.in_ok-contract.ensures.requested _ c.requires.formed c.in_err-place.ensures.refused)

pub add_row-requires : goal.add_row-requires
add_row-requires c = new-row-of _ _ _ _ _ c.in_ok-contract.ensures.refused c.in_ok-contract.ensures.requested _ _ c.requires c.in_ok-place.ensures.refused c.in_ok-place.ensures.placed

pub returns : goal.returns
returns c =
    bill-accepted _ _ _ _ _ c.in_ok-contract.ensures.refused c.in_ok-contract.ensures.requested _ _ c.requires c.in_ok-place.ensures.refused c.in_ok-place.ensures.placed _ _ c.add_row.ensures
