-- `contracts_ok` tests each slot: those before the one at hand pass.
use mathlib.Core.Path.{◌≡◌}
use mathlib.Core.Bool.{true}
use Prim.Native.Nat.{ℕ, ◌<◌}
use Rattle.layout.specs.Layout.{territory_in}
use Rattle.layout.specs.Present.{rules, layout}
use Rattle.ledger.proofs.ContractSlots.{tested}
use Rattle.ledger.proofs.check.contracts_ok.Given as goal

abbrev pub invariant-loop-c : goal.invariant-loop-c
invariant-loop-c l =
    (l.territory ≡ territory_in rules layout l.b) × ((i : ℕ) → i < l.c → tested l.territory l.b i ≡ true)
