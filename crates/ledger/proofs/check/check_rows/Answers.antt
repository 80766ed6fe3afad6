-- `check_rows` goes over the slots once: what is found of the rest, with the rows and their amounts so far and the contract and last day of
-- the last row, is what is to be found. Three answers read off which contract was found, each from its own goal, whose type has no name to
-- state a lemma over.
use mathlib.Core.Path.{◌≡◌, sym, ◌∙◌}
use native.Mathlib.Omega.{arith}
use Rattle.std.proofs.lemmas.Result.{err_from_is_err_and}
use Rattle.layout.specs.Present.{contracts}
use Rattle.layout.proofs.Lawful.{offsets}
use Rattle.layout.proofs.Present.{present}
use Rattle.layout.proofs.RowChecks.{pass-begins, pass-ends, rows-rest, slot-refused, row-malformed, row-adds, row-passed}
use Rattle.ledger.proofs.RowTests.{contract-low, same-contract, row-tested, slot-holds, slot-empty}
use Rattle.ledger.proofs.check.check_rows.Goals as goal
use Rattle.ledger.proofs.check.check_rows.Goals.{then-bill-before, else-bill-before}

pub loop-i-init : goal.loop-i-init
loop-i-init c = (pass-begins present _, c.contract-found.ensures)

pub returns-in_err-row : goal.returns-in_err-row
unfolding offsets
returns-in_err-row c =
    let p = err_from_is_err_and c.from_residual.result c.from_residual.ensures.1 in
    rw (p.1, p.2) (slot-refused present _ c.loop-i.invariant.0 c.told-b c.loop-i-test.true (sym c.in_err-row.was ∙ c.row_slot.ensures))

pub returns-in_default : goal.returns-in_default
unfolding offsets
returns-in_default c =
    c.check_rest.ensures
    ∙ rows-rest present _ c.loop-i.invariant.0 c.told-b c.loop-i-test.true
    (λ i. omega (arith, c.fits-b i))
    (slot-empty c.in_default.is c.in_ok-row.was c.row_slot.ensures)

pub contract-found-requires-then-bill-before : goal.contract-found-requires-then-bill-before
contract-found-requires-then-bill-before c = contract-low _ _ (slot-holds c.in-Some.is c.in_ok-row.was c.row_slot.ensures)

pub returns-then-not-follows : goal.returns-then-not-follows
unfolding offsets
returns-then-not-follows c =
    let read : c.if-bill-before.found ≡ contracts c.args.b.now c.in-Some.row.bill.contract =
    elim c.if-bill-before.branch [
      | then-bill-before w ↦ w.found-is ∙ w.contract-found-then-bill-before.ensures
      | else-bill-before w ↦ same-contract c.args.b.now w.if-bill-before.false (w.found-is ∙ c.loop-i.invariant.1)
    ] in
    let holds = slot-holds c.in-Some.is c.in_ok-row.was c.row_slot.ensures in
    row-malformed present _ c.loop-i.invariant.0 c.told-b c.loop-i-test.true holds
    (row-tested _ _ _ _ _ (contract-low _ _ holds) read _ c.follows.ensures ∙ c.if-not-follows.true)

pub overflow_add-due : goal.overflow_add-due
unfolding offsets
overflow_add-due c =
    let read : c.if-bill-before.found ≡ contracts c.args.b.now c.in-Some.row.bill.contract =
    elim c.if-bill-before.branch [
      | then-bill-before w ↦ w.found-is ∙ w.contract-found-then-bill-before.ensures
      | else-bill-before w ↦ same-contract c.args.b.now w.if-bill-before.false (w.found-is ∙ c.loop-i.invariant.1)
    ] in
    let holds = slot-holds c.in-Some.is c.in_ok-row.was c.row_slot.ensures in
    let sum = row-adds present _ c.loop-i.invariant.0 c.told-b c.loop-i-test.true holds
    (row-tested _ _ _ _ _ (contract-low _ _ holds) read _ c.follows.ensures ∙ c.if-not-follows.false) in
    record { fits = omega arith }

pub loop-i-preserved : goal.loop-i-preserved
unfolding offsets
loop-i-preserved c =
    let read : c.if-bill-before.found ≡ contracts c.args.b.now c.in-Some.row.bill.contract =
    elim c.if-bill-before.branch [
      | then-bill-before w ↦ w.found-is ∙ w.contract-found-then-bill-before.ensures
      | else-bill-before w ↦ same-contract c.args.b.now w.if-bill-before.false (w.found-is ∙ c.loop-i.invariant.1)
    ] in
    let holds = slot-holds c.in-Some.is c.in_ok-row.was c.row_slot.ensures in (
      row-passed present _ c.loop-i.invariant.0 c.told-b c.loop-i-test.true holds
          (row-tested _ _ _ _ _ (contract-low _ _ holds) read _ c.follows.ensures ∙ c.if-not-follows.false),
      read,
    )

pub returns : goal.returns
returns c = pass-ends present _ c.loop-i.invariant.0 (omega arith)
