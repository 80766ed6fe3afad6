-- `reply_to_lines` prints all lines. The invariant: what is written, and what is to be printed of the rest, make the whole.
use Rattle.std.specs.Slice.Iter.{split_inclusive_rest}
use Rattle.session.specs.Replies.{holding}
use Rattle.session.proofs.Lines.{Reached}
use Rattle.session.proofs.reply_to_lines.Given as goal

abbrev pub invariant-loop-line : goal.invariant-loop-line
invariant-loop-line l = Reached l.input (holding l.initial.ledger l.initial.book) l.initial.out (holding l.ledger l.book) l.out (split_inclusive_rest l.line-iterator) l.written
