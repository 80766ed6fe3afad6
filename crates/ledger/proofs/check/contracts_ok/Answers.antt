-- `contracts_ok` tests each slot: those before the one at hand pass.
use mathlib.Core.Path.{◌≡◌, sym, ◌∙◌, subst}
use mathlib.Core.Bool.{true, false}
use Prim.Native.Nat.{ℕ}
use native.Mathlib.Nat.{not-suc-le-zero}
use native.Mathlib.Omega.{arith}
use borrow.Author.Count.{below_more}
use Rattle.records.specs.OneSlot.{slot_at}
use Rattle.layout.proofs.Present.{present}
use Rattle.layout.proofs.Access.{contracts-pass, contracts-fail}
use Rattle.layout.proofs.Lawful.{offsets}
use Rattle.ledger.proofs.ContractSlots.{tested, slot-tested}
use Rattle.ledger.proofs.check.contracts_ok.Goals as goal

pub loop-c-init : goal.loop-c-init
loop-c-init c = (c.territory-territory.ensures, λ i h. absurd (not-suc-le-zero h))

pub returns-then-not-slot_ok : goal.returns-then-not-slot_ok
unfolding slot_at offsets
returns-then-not-slot_ok c =
    sym (contracts-fail present c.args.b.now c.told-b c.loop-c.c c.loop-c-test.true
    (subst (λ (t : ℕ). tested t c.args.b.now c.loop-c.c ≡ false) c.loop-c.invariant.0 (sym (slot-tested _ c.loop-c.c c.args.b.now _ c.slot.ensures _ c.slot_ok.ensures) ∙ c.if-not-slot_ok.true)))

pub loop-c-preserved : goal.loop-c-preserved
loop-c-preserved c =
    let inv = c.loop-c.invariant in
    (inv.0, below_more _ _ inv.1 (sym (slot-tested _ c.loop-c.c c.args.b.now _ c.slot.ensures _ c.slot_ok.ensures) ∙ c.if-not-slot_ok.false))

pub returns : goal.returns
unfolding slot_at offsets
returns c =
    let inv = c.loop-c.invariant in
    sym (contracts-pass present c.args.b.now c.told-b (λ i h. subst (λ (t : ℕ). tested t c.args.b.now i ≡ true) inv.0 (inv.1 i (omega arith))))
