-- `perform` is turned down where the ledger isn't well formed, and passes the call on where it is.
use mathlib.Core.Path.{sym, ap, ◌∙◌}
use Rattle.std.proofs.lemmas.Result.{err_from_is_err_and}
use Rattle.layout.specs.Present.{rules, layout, checked_of}
use Rattle.layout.proofs.Lawful.{offsets}
use Rattle.layout.proofs.CheckedParts.{other_length}
use Rattle.ledger.proofs.Refusals.{malformed-answered, check-summed}
use Rattle.calls.proofs.Performed.{performed}
use Rattle.calls.proofs.perform.Goals as goal

pub returns-in_default : goal.returns-in_default
unfolding offsets
returns-in_default c = performed _ _ _ _ (malformed-answered _ _ (other_length rules layout c.args.ledger.now c.in_default.ensures.cases) _)

pub returns-in_err-totals : goal.returns-in_err-totals
returns-in_err-totals c =
    let p = err_from_is_err_and c.from_residual.result c.from_residual.ensures.1 in
    rw (p.1, p.2, c.in-Some.ensures.cases.same)
    (performed _ _ _ _ (malformed-answered _ _ (sym c.in_err-totals.was ∙ c.check.ensures ∙ ap checked_of c.in-Some.ensures.cases.same) _))

pub perform_checked-requires : goal.perform_checked-requires
perform_checked-requires c = check-summed _ _ (sym c.in_ok-totals.was ∙ c.check.ensures)

pub returns : goal.returns
returns c = rw (← c.in-Some.ensures.cases.same) (performed _ _ _ _ c.perform_checked.ensures)
