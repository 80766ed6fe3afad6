-- `check` is the well-formed test with its counts: by its parts, on the bytes as an array of their length.
use mathlib.Core.Path.{sym, ap, ◌∙◌}
use native.Mathlib.Omega.{arith}
use Rattle.layout.specs.Check.{header_ok, contracts_ok, rows_checked_of}
use Rattle.layout.specs.Present.{rules, layout}
use Rattle.layout.proofs.Lawful.{offsets}
use Rattle.layout.proofs.CheckedParts.{other_length, header-malformed, contracts-malformed, rows-checked}
use Rattle.ledger.proofs.check.check.Goals as goal

pub returns-in_default : goal.returns-in_default
unfolding offsets
returns-in_default c = other_length rules layout c.args.b.now c.in_default.ensures.cases

pub returns-then-not-header_ok : goal.returns-then-not-header_ok
unfolding offsets
returns-then-not-header_ok c =
    let whole = c.in-Some.ensures.cases in
    header-malformed rules layout c.args.b.now (λ i. omega (arith, c.type_inv.b i)) whole.long
    (ap (header_ok rules layout) (sym whole.same) ∙ sym c.header_ok.ensures ∙ c.if-not-header_ok.true)

pub returns-then-not-contracts_ok : goal.returns-then-not-contracts_ok
unfolding offsets
returns-then-not-contracts_ok c =
    let whole = c.in-Some.ensures.cases in
    contracts-malformed rules layout c.args.b.now (λ i. omega (arith, c.type_inv.b i)) whole.long
    (ap (header_ok rules layout) (sym whole.same) ∙ sym c.header_ok.ensures ∙ c.if-not-header_ok.false)
    (ap (contracts_ok rules layout) (sym whole.same) ∙ sym c.contracts_ok.ensures ∙ c.if-not-contracts_ok.true)

pub returns : goal.returns
unfolding offsets
returns c =
    let whole = c.in-Some.ensures.cases in
    c.check_rows.ensures ∙ ap (rows_checked_of rules layout) whole.same
    ∙ rows-checked rules layout c.args.b.now (λ i. omega (arith, c.type_inv.b i)) whole.long
    (ap (header_ok rules layout) (sym whole.same) ∙ sym c.header_ok.ensures ∙ c.if-not-header_ok.false)
    (ap (contracts_ok rules layout) (sym whole.same) ∙ sym c.contracts_ok.ensures ∙ c.if-not-contracts_ok.false)
