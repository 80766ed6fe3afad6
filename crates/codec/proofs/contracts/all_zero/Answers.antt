-- `all_zero` tests the bytes of the slot.
use native.Mathlib.Omega.{arith}
use Rattle.records.specs.Pack.{size}
use Rattle.layout.specs.PresentLayout.{contract_record}
use Rattle.records.proofs.SlotTests.{zero-numbers}
use Rattle.codec.proofs.WholeSlots.{contract-widths}
use Rattle.codec.proofs.contracts.all_zero.Goals as goal

pub returns : goal.returns
unfolding size
returns c = zero-numbers contract_record _ contract-widths (λ i. omega (arith, c.fits-s i)) c.told-s _ c.is_zero.ensures
