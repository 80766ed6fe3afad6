-- `put_all` sets the fields, one width more with each turn.
use native.Mathlib.Omega.{arith}
use lib.ListN.{length-append}
use Rattle.std.proofs.Common.{rules}
use Rattle.std.proofs.lemmas.Slice.Zip.{zip_turn, zip_end}
use Rattle.records.proofs.WrittenFields.{written_none, counted, next_put, next-counts, written_next, written_all}
use Rattle.records.proofs.numbers.put_all.Goals as goal

pub loop-w-init : goal.loop-w-init
loop-w-init c = written_none _ _ _ (λ i. omega (arith, c.type_inv.s i))

pub put-requires : goal.put-requires
put-requires c =
    let turn = zip_turn c.args.widths.now c.args.values.now _ _ _ c.next.new.self _ (search rules) (search rules) c.loop-w.yielded_by _ c.in-Some.is c.next.ensures.steps in
    next_put c.requires c.loop-w.invariant turn.0 (turn.2 0) (turn.3 0)

pub overflow_add-at : goal.overflow_add-at
overflow_add-at c =
    let turn = zip_turn c.args.widths.now c.args.values.now _ _ _ c.next.new.self _ (search rules) (search rules) c.loop-w.yielded_by _ c.in-Some.is c.next.ensures.steps in
    record { fits = next-counts c.requires c.loop-w.invariant turn.0 (turn.2 0) (turn.3 0) }

pub loop-w-preserved : goal.loop-w-preserved
loop-w-preserved c =
    let turn = zip_turn c.args.widths.now c.args.values.now _ _ _ c.next.new.self _ (search rules) (search rules) c.loop-w.yielded_by _ c.in-Some.is c.next.ensures.steps in
    written_next c.requires c.loop-w.invariant turn.0 (turn.2 0) (turn.3 0) c.put.new.s _ c.put.ensures (length-append c.loop-w.yielded _)

pub returns : goal.returns
returns c =
    let end = zip_end c.args.widths.now c.args.values.now _ _ _ c.next.new.self _ (search rules) (search rules) c.loop-w.yielded_by c.in-None.is c.next.ensures.steps in
    written_all c.requires c.loop-w.invariant (omega (arith, end, counted c.requires))
