-- Document 01, "The program and one run": all that the program prints of an input. Assumes nothing.
use Rattle.std.specs.Prelude.{cond, List, [], ◌∷◌, ◌++◌, ℕ, ◌+◌, ◌*◌, ◌/◌, eqb, ltb, length, Result}
use Rattle.text.specs.declared.reading.Command.{Command}
use Rattle.model.specs.declared.Reply.{Reply}
use Rattle.text.specs.Bytes.{line_feed}
use Rattle.text.specs.Pieces.{pieces}
use Rattle.text.specs.Commands.{command_of, no_command, shortest_line}
use Rattle.text.specs.Lines.{line_text, longest_line}
use Rattle.model.specs.History.{replies}
use Rattle.session.specs.Replies.{State, initial, reply, next}

-- the commands of a text's pieces between line feeds: the last piece has no line feed, so it can't be read, and where it is empty there is no line
unfoldable pub commands_of_pieces : List (List ℕ) → List (Result Command ℕ)
commands_of_pieces [] = []
commands_of_pieces (last ∷ []) = cond (eqb (length last) 0) [] (no_command ∷ [])
commands_of_pieces (line ∷ another ∷ lines) = command_of line ∷ commands_of_pieces (another ∷ lines)

-- the commands of a text, line by line
unfoldable pub commands_of : List ℕ → List (Result Command ℕ)
commands_of text = commands_of_pieces (pieces line_feed text)

-- the most bytes that the program reads
abbrev pub most_input : ℕ
most_input = 65536

-- the commands of an input: one of more bytes can't be read as a whole
unfoldable pub input_commands : List ℕ → List (Result Command ℕ)
input_commands input = cond (ltb most_input (length input)) (no_command ∷ []) (commands_of input)

-- a command, and the reply to it
pub record Exchange : Type 0 where
  pub command : Result Command ℕ
  pub reply : Reply

abbrev pub exchange : State → Result Command ℕ → Exchange
exchange s c = record { command = c; reply = reply s c }

-- the exchanges of a list of commands, from a state on: after a refused line it goes on to the next
abbrev pub exchanges : State → List (Result Command ℕ) → List Exchange
exchanges s commands = replies next exchange s commands

-- the text of the lines that are printed
unfoldable pub printed : List Exchange → List ℕ
printed [] = []
printed (e ∷ es) = line_text e.reply ++ printed es

-- what is printed of an input
unfoldable pub transcript : List ℕ → List ℕ
transcript input = printed (exchanges initial (input_commands input))

-- no line printed is longer than this many bytes for each byte of the line read, its line feed included: the longest line for the shortest
-- that can be read, rounded up
abbrev pub output_per_byte : ℕ
output_per_byte = (longest_line + shortest_line) / (shortest_line + 1)

-- so no output is longer
abbrev pub most_output : ℕ
most_output = output_per_byte * most_input
