-- `read_input` stays within the buffer, and the start of the buffer is what the reader gave. The measure is what is left of the buffer.
use Rattle.std.proofs.Common.{◌-◌, ◌≤◌, length, take}
use Rattle.std.specs.Io.KnownBytes.{Consumes}
use Rattle.input.proofs.read_input.Given as goal

abbrev pub invariant-loop-length : goal.invariant-loop-length
invariant-loop-length g l = record {
  within : l.length ≤ length l.buffer;
  in_order : Consumes (g.R.Read.remaining l.initial.reader) (g.R.Read.remaining l.reader) (take l.length l.buffer);
}

abbrev pub decreases-loop-length : goal.decreases-loop-length
decreases-loop-length g l = length l.initial.buffer - l.length
