-- The loop of `read_command`: the first word is the name, and of the others those that are passed are the numbers read.
use Rattle.std.proofs.Common.{drop, length}
use Rattle.text.specs.Bytes.{space}
use Rattle.text.specs.Pieces.{pieces}
use Rattle.text.proofs.Words.{Named, Gathered}
use Rattle.text.proofs.reading.read_command.Given as goal

abbrev pub invariant-loop-word : goal.invariant-loop-word
invariant-loop-word l = record {
  named : Named l.line l.name l.initial.word-iterator;
  gathered : Gathered (drop 1 (pieces space l.line)) (length l.yielded) l.numbers.items;
}
