-- The numbers of a row's slot are below their widths. Assumes nothing.
use mathlib.Core.List.{List}
use Prim.Native.Nat.{ℕ, ◌^◌, ◌<◌}
use Rattle.limits.specs.Limits.{contract_count}
use Rattle.fields.specs.Fields.{fields}
use Rattle.fields.proofs.Laws.{field_lt}
use Rattle.records.specs.Pack.{unpack}
use Rattle.records.specs.OneSlot.{slot_numbers, slot_part, slot_at}
use Rattle.records.proofs.Scan.{record_of}
use Rattle.layout.specs.Layout.{first_row}
use Rattle.layout.specs.Check.{row_slot_at}
use Rattle.layout.specs.PresentLayout.{row_record}
use Rattle.layout.specs.Present.{rules, layout}

module _ (b : List ℕ) (i : ℕ) where
  pub row-amount-low : (record_of row_record (row_slot_at rules layout b i)).amount < 2 ^ 50
  unfolding slot_at slot_numbers unpack fields
  row-amount-low = field_lt (slot_part row_record (first_row rules layout) b i) _ _

  pub row-contract-low : (record_of row_record (row_slot_at rules layout b i)).bill.contract < contract_count
  unfolding slot_at slot_numbers unpack fields
  row-contract-low = field_lt (slot_part row_record (first_row rules layout) b i) _ _
