-- The program's own limits: the tests on either side of them. Assumes nothing.
use mathlib.Core.Path.{refl}
use borrow.Author.Tests.{lt-ltb, le-ltb}
use lib.ListN.{length}
use Rattle.session.specs.Replies.{price_reply}
use Rattle.session.specs.Transcript.{input_commands, most_input}
use Rattle.session.specs.ProgramLimits.{ProgramLimits}

pub program_limits : ProgramLimits
unfolding input_commands price_reply
program_limits = record {
  whole_input = λ input h. rw (le-ltb most_input (length input) h);
  longer_input = λ input h. rw (lt-ltb most_input (length input) h);
  price_accepted = refl;
  index_above = refl;
  value_above = refl;
}
