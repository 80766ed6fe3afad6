-- The test of a contract's slot, as the check finds it. Assumes nothing.
use mathlib.Core.Path.{◌≡◌, ap, ◌∙◌}
use mathlib.Core.Bool.{Bool}
use mathlib.Core.List.{List}
use Prim.Native.Nat.{ℕ}
use Rattle.records.specs.Slots.{slot_ok}
use Rattle.records.specs.OneSlot.{slot_numbers}
use Rattle.layout.specs.PresentLayout.{contract_record}
use Rattle.layout.specs.Offsets.{contract_part}
use Rattle.model.specs.PresentRules.{contract_ranges}

-- the test of a slot's bytes, and that of contract slot c
abbrev pub tested_slot : (territory : ℕ) → List ℕ → Bool
tested_slot territory s = slot_ok contract_record (contract_ranges territory) (slot_numbers contract_record s)

abbrev pub tested : (territory : ℕ) → List ℕ → (c : ℕ) → Bool
tested territory b c = tested_slot territory (contract_part b c)

-- what the call finds of the slot at hand
pub slot-tested : (territory c : ℕ) (b s : List ℕ) → s ≡ contract_part b c → (r : Bool) → r ≡ tested_slot territory s → r ≡ tested territory b c
slot-tested territory c b s lent r e = e ∙ ap (tested_slot territory) lent
