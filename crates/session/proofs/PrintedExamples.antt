-- The lines of the examples, by computation. Assumes nothing.
use mathlib.Core.Path.{refl}
use Rattle.text.specs.Pieces.{pieces, same_text}
use Rattle.text.specs.Numbers.{digits_by, digits, numbers_of}
use Rattle.text.specs.Commands.{form_named, command_of}
use Rattle.session.specs.Replies.{response_to}
use Rattle.session.specs.Transcript.{commands_of_pieces, commands_of}
use Rattle.session.specs.PrintedExamples.{printed_examples, LinesPrinted}

pub lines_printed : LinesPrinted
unfolding printed_examples digits digits_by response_to commands_of commands_of_pieces command_of pieces same_text numbers_of form_named
lines_printed = record { answers = refl; unreadable = λ s. refl; no_input = refl; empty_line = refl; cut_line = refl }
