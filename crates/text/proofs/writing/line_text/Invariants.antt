-- The loop of `line_text`: `ok` and the numbers that are passed are on the line, each in its room.
use Rattle.std.proofs.Common.{◌≡◌, ◌+◌, ◌*◌, ◌≤◌, ◌++◌, length, take}
use Rattle.text.specs.Bytes.{ascii}
use Rattle.text.specs.Lines.{numbers_text, number_room}
use Rattle.text.proofs.writing.line_text.Given as goal

abbrev pub invariant-loop-number : goal.invariant-loop-number
invariant-loop-number l = record {
  text : l.line.bytes ≡ ascii "ok" ++ numbers_text (take l.number-index l.number-items);
  room : length l.line.bytes ≤ 2 + number_room * l.number-index;
}
