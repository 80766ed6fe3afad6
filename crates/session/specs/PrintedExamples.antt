-- Document 01, "The program and one run": the line printed for each kind of answer, and how a text is cut into lines. Assumes nothing.
use Rattle.std.specs.Prelude.{◌≡◌, List, [], ◌∷◌, map, negsuc, Ok, Err}
use Prim.Native.String.{String}
use Rattle.calendar.specs.Calendar.{date_from}
use Rattle.text.specs.declared.reading.Command.{Command}
use Rattle.text.specs.Bytes.{ascii}
use Rattle.text.specs.Commands.{no_command}
use Rattle.text.specs.Lines.{line_text}
use Rattle.model.specs.declared.Answer.TheVariants.{Done, Billed, Rebilled, Certified, Cancelled, Claimed, Reported, Totalled}
use Rattle.model.specs.declared.Reply.{Reply}
use Rattle.model.specs.declared.Call.{Call}
use Rattle.model.specs.Calls.{reply_of, reply_without_numbers}
use Rattle.calls.specs.Replies.{reply_of_day, reply_of_date}
use Rattle.session.specs.Replies.{State, saying, response_to}
use Rattle.session.specs.Transcript.{commands_of}

-- a reply, and the line printed of it
pub record PrintedExample : Type 0 where
  pub reply : Reply
  pub line : String

infix 4 ◌prints◌
abbrev pub ◌prints◌ : Reply → String → PrintedExample
reply prints line = record { reply = reply; line = line }

-- "`ok` with the answer's numbers in the order given above, or `refused` and the number"; negsuc n is −(n + 1)
unfoldable pub printed_examples : List PrintedExample
printed_examples =
    (reply_of (Ok Done) prints "ok\n")
    ∷ (reply_of (Ok (Billed 1 2 3)) prints "ok 1 2 3\n")
    ∷ (reply_of (Ok (Rebilled 1 2 (negsuc 2))) prints "ok 1 2 -3\n")
    ∷ (reply_of (Ok (Certified (negsuc 0) 2)) prints "ok -1 2\n")
    ∷ (reply_of (Ok (Cancelled (negsuc 0))) prints "ok -1\n")
    ∷ (reply_of (Ok (Claimed (negsuc 0) 2)) prints "ok -1 2\n")
    ∷ (reply_of (Ok (Reported 1 2 3)) prints "ok 1 2 3\n")
    ∷ (reply_of (Ok (Totalled 1 (negsuc 1))) prints "ok 1 -2\n")
    ∷ (reply_of (Err 13) prints "refused 13\n")
    ∷ (reply_of_day (Ok 820) prints "ok 820\n")
    ∷ (reply_of_date (Ok (date_from 2024 2 29)) prints "ok 2024 2 29\n")
    ∷ []

pub record LinesPrinted : Type 0 where
  pub answers : map (λ e. line_text e.reply) printed_examples ≡ map (λ e. ascii e.line) printed_examples
  -- 1: "The program's line can't be read"
  pub unreadable : (s : State) → response_to s no_command ≡ saying s (reply_without_numbers 1)
  -- "an empty line or a last line without its line feed can't be read"; "no input prints nothing"
  pub no_input : commands_of [] ≡ []
  pub empty_line : commands_of (ascii "\ntotal\n") ≡ no_command ∷ Ok (Command.OnLedger Call.Total) ∷ []
  pub cut_line : commands_of (ascii "total\ntotal") ≡ Ok (Command.OnLedger Call.Total) ∷ no_command ∷ []
