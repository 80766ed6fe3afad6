-- `replace_amount` writes the amount in the slot of row i.
use mathlib.Core.Path.{◌≡◌, sym, ap, ◌∙◌}
use mathlib.Core.List.{List}
use Prim.Native.Nat.{ℕ, ◌+◌, ◌-◌}
use native.Mathlib.Omega.{arith}
use lib.ListN.{take, drop, length-drop}
use lib.Seq.{length-take-le}
use Rattle.model.specs.declared.Row.{Row}
use Rattle.model.specs.Ledger.{with_amount}
use Rattle.layout.specs.PresentLayout.{row_record}
use Rattle.layout.specs.Offsets.{row_start, row_length}
use Rattle.records.specs.OneSlot.{record_in, record_bytes}
use Rattle.layout.specs.Present.{row_at}
use Rattle.layout.proofs.Present.{row-in-slot}
use Rattle.records.proofs.Replaced.{part-written}
use Rattle.edits.proofs.PackedChanges.{length-row}
use Rattle.edits.proofs.replace_amount.Goals as goal

pub put_amount-requires : goal.put_amount-requires
put_amount-requires c =
    let b = c.args.b.now in
    let at = row_start c.args.i in
    let lent : at + row_length - at ≡ row_length = omega arith in
    rw lent (length-take-le row_length (drop at b) (omega (arith, c.told-b, length-drop at b)), (c.requires.packed, c.requires.low))

pub returns : goal.returns
returns c =
    let a = c.args in
    let b = a.b.now in
    let at = row_start a.i in
    let lent : at + row_length - at ≡ row_length = omega arith in
    let slot : Row → List ℕ = λ x. record_bytes row_record (with_amount x a.amount) in
    part-written at row_length (slot (row_at b a.i)) b c.put_amount.new.s (length-row (with_amount (row_at b a.i) a.amount))
    (c.put_amount.ensures ∙ ap (λ (n : ℕ). slot (record_in row_record (take n (drop at b)))) lent ∙ ap slot (sym (row-in-slot b a.i)))
