-- `report` refuses what is malformed, and otherwise answers what `checked_report` does.
use mathlib.Core.Path.{sym, ap, ◌∙◌}
use Rattle.std.proofs.lemmas.Result.{err_from_is_err_and}
use Rattle.layout.specs.Present.{rules, layout, checked_of}
use Rattle.layout.proofs.Lawful.{offsets}
use Rattle.layout.proofs.CheckedParts.{other_length}
use Rattle.ledger.proofs.Refusals.{malformed-answered, check-searched}
use Rattle.claim_calls.proofs.report.Goals as goal

pub returns-in_default : goal.returns-in_default
unfolding offsets
returns-in_default c = λ book. malformed-answered _ _ (other_length rules layout c.args.ledger.now c.in_default.ensures.cases) _

pub returns-in_err-totals : goal.returns-in_err-totals
returns-in_err-totals c =
    let p = err_from_is_err_and c.from_residual.result c.from_residual.ensures.1 in
    rw (p.1, p.2) (λ book. malformed-answered _ _ (sym c.in_err-totals.was ∙ c.check.ensures ∙ ap checked_of c.in-Some.ensures.cases.same) _)

pub invariant_of-held : goal.invariant_of-held
invariant_of-held c = record { searched = check-searched _ _ (sym c.in_ok-totals.was ∙ c.check.ensures) }

pub returns : goal.returns
returns c = rw (← c.in-Some.ensures.cases.same) c.checked_report.ensures
