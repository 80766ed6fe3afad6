-- Document 01, "The program and one run" and number 8: on either side of the program's own limits. Assumes nothing.
use Rattle.std.specs.Prelude.{◌≡◌, List, [], ◌∷◌, ℕ, ◌≤◌, ◌<◌, length}
use Rattle.text.specs.Commands.{no_command}
use Rattle.model.specs.Calls.{reply_without_numbers}
use Rattle.session.specs.Replies.{price_reply}
use Rattle.session.specs.Transcript.{commands_of, input_commands}

pub record ProgramLimits : Type 0 where
  -- "at most 65,536 bytes (more gives the one line `refused 1`)"
  pub whole_input : (input : List ℕ) → length input ≤ 65536 → input_commands input ≡ commands_of input
  pub longer_input : (input : List ℕ) → 65536 < length input → input_commands input ≡ no_command ∷ []
  -- 8: "a book entry's index is above 1,739 or its value above 999,999"
  pub price_accepted : price_reply 1739 999999 ≡ reply_without_numbers 0
  pub index_above : price_reply 1740 999999 ≡ reply_without_numbers 8
  pub value_above : price_reply 1739 1000000 ≡ reply_without_numbers 8
