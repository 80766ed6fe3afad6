-- `row_at` unpacks the slot.
use mathlib.Core.Path.{sym, ap, ◌∙◌}
use Rattle.layout.specs.PresentLayout.{row_record}
use Rattle.records.specs.OneSlot.{record_in}
use Rattle.layout.proofs.Present.{row-in-slot}
use Rattle.ledger.proofs.rows.row_at.Goals as goal

pub returns : goal.returns
returns c = c.unpack_row.ensures ∙ ap (record_in row_record) c.slot.ensures ∙ sym (row-in-slot c.args.b.now c.args.i)
