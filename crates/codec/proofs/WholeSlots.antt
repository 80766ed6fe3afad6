-- The widths of the header, of a contract's slot and of a row's can be written. Assumes nothing.
use mathlib.Core.Path.{refl}
use native.Mathlib.Omega.{arith}
use Rattle.records.specs.Pack.{size}
use Rattle.records.specs.Slots.{whole}
use Rattle.layout.specs.PresentLayout.{contract_record, row_record, present_layout}
use Rattle.records.specs.Widths.{WidthsOk}

pub header-widths : WidthsOk present_layout.header
unfolding size
header-widths = record { each = refl; aligned = refl; short = omega arith }

pub contract-widths : WidthsOk (whole contract_record)
unfolding size
contract-widths = record { each = refl; aligned = refl; short = omega arith }

pub row-widths : WidthsOk (whole row_record)
unfolding size
row-widths = record { each = refl; aligned = refl; short = omega arith }
