-- `put_all` sets the fields, one width more with each turn.
use lib.ListN.{length}
use Rattle.records.proofs.WrittenFields.{Written}
use Rattle.records.proofs.numbers.put_all.Given as goal

abbrev pub invariant-loop-w : goal.invariant-loop-w
invariant-loop-w l = Written l.initial.s l.widths l.values l.s l.at (length l.yielded)
