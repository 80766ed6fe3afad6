-- What `write_output` wrote and what is left are the bytes, in their order. The measure is what is left.
use Rattle.std.proofs.Common.{◌≡◌, ◌-◌, length, take, drop}
use Rattle.std.specs.Io.KnownBytes.{Appends}
use Rattle.ebds.proofs.write_output.Given as goal

abbrev pub invariant-loop-rest : goal.invariant-loop-rest
invariant-loop-rest g l = record {
  left : l.rest ≡ drop (length l.bytes - length l.rest) l.bytes;
  start : Appends (g.W.Write.contents l.initial.writer) (g.W.Write.contents l.writer) (take (length l.bytes - length l.rest) l.bytes);
}

abbrev pub decreases-loop-rest : goal.decreases-loop-rest
decreases-loop-rest g l = length l.rest
