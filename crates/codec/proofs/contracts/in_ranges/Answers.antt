-- `in_ranges` is the test of the slot's numbers.
use mathlib.Core.Path.{ap, ◌∙◌}
use mathlib.Core.List.{List}
use Prim.Native.Nat.{ℕ}
use Rattle.model.specs.PresentRules.{contract_ranges}
use Rattle.codec.proofs.contracts.in_ranges.Goals as goal

pub returns : goal.returns
returns c = c.contract_ranges.ensures ∙ ap (λ (v : List ℕ). contract_ranges c.args.territory v) c.numbers_in.ensures
