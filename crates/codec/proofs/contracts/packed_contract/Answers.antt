-- `packed_contract` sets all the numbers of the slot.
use Rattle.records.specs.Pack.{size}
use Rattle.layout.specs.PresentLayout.{contract_record}
use Rattle.records.proofs.WrittenSlots.{slot-writable, slot-written}
use Rattle.codec.proofs.WholeSlots.{contract-widths}
use Rattle.codec.proofs.contracts.packed_contract.Goals as goal

pub put_all-requires : goal.put_all-requires
unfolding size
put_all-requires c = search (slot-writable contract_record contract-widths)

pub returns : goal.returns
unfolding size
returns c = search (slot-written contract_record contract-widths)
