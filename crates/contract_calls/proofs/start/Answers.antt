-- `start` is turned down by the buffer's length or the territory, or makes the bytes a fresh ledger.
use Rattle.std.proofs.lemmas.Result.{err_from_is_err_and}
use Rattle.refusals.proofs.SomeNumber.{some_number}
use Rattle.layout.proofs.Lawful.{offsets}
use Rattle.contract_calls.proofs.StartAnswers.{wrong-length, refused-territory, taken-territory, started}
use Rattle.contract_calls.proofs.start.Goals as goal

pub returns-in_default : goal.returns-in_default
unfolding offsets
returns-in_default c = wrong-length _ _ c.in_default.ensures.cases

pub returns-in_err-refuse_if : goal.returns-in_err-refuse_if
unfolding offsets
returns-in_err-refuse_if c =
    let p = err_from_is_err_and c.from_residual.result c.from_residual.ensures.1 in
    let whole = c.in-Some.ensures.cases in
    rw (p.1, p.2) (refused-territory _ _ _ (some_number c.in_err-refuse_if.field-0.0) whole.long c.in_err-refuse_if.ensures _ whole.same)

pub fresh-requires : goal.fresh-requires
fresh-requires c = taken-territory c.args.ledger.now _ c.in_ok-refuse_if.ensures

pub returns : goal.returns
unfolding offsets
returns c = started _ _ _ c.in-Some.ensures.cases.long (taken-territory c.args.ledger.now _ c.in_ok-refuse_if.ensures) c.fresh.ensures
