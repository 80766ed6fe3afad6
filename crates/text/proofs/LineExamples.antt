-- The lines of the examples are read as they must be, by computation. Assumes nothing.
use mathlib.Core.Path.{refl}
use Rattle.text.specs.Pieces.{pieces, same_text}
use Rattle.text.specs.Numbers.{decimal_value, number_of, numbers_of}
use Rattle.text.specs.Commands.{form_named, command_of}
use Rattle.text.specs.LineExamples.{readable, unreadable, LinesRead}

pub lines_read : LinesRead
unfolding readable unreadable command_of pieces same_text decimal_value number_of numbers_of form_named
lines_read = record { as_commands = refl; as_unreadable = refl }
