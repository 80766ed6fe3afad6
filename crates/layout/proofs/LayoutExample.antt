-- The bytes of the example, by computation. Assumes nothing.
use mathlib.Core.Path.{refl}
use Rattle.fields.specs.Field.{value, bits_of, bytes_of_bits}
use Rattle.fields.specs.Fields.{field_bits}
use Rattle.records.specs.Pack.{size, pack, join}
use Rattle.records.specs.Slots.{slot_out, array_out}
use Rattle.records.specs.Places.{places}
use Rattle.model.specs.OpenContracts.{put_contract}
use Rattle.layout.specs.Layout.{bytes_of}
use Rattle.layout.specs.LayoutExample.{example_contract, example_row, example_ledger, header_bytes, contract_bytes, row_bytes, LayoutExample}

pub layout_example : LayoutExample
unfolding example_contract example_row example_ledger header_bytes contract_bytes row_bytes bytes_of put_contract array_out places slot_out pack size join bytes_of_bits field_bits value bits_of
layout_example = refl
