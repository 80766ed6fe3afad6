-- What a session says of a history (document 01, "A history and its sheet"): since the last accepted start, or since the beginning, its
-- ledger is that of a history, the lines printed are that history's answers, and they balance. Assumes nothing.
use Rattle.std.specs.Prelude.{◌≡◌, Bool, true, false, cond, List, [], ◌∷◌, ◌++◌, map, ℕ, zero, suc, ◌≤◌, replicate, set, Result, Ok, Err}
use Rattle.limits.specs.Limits.{book_length}
use Rattle.text.specs.declared.reading.Command.{Command}
use Rattle.model.specs.declared.Reply.{Reply}
use Rattle.model.specs.declared.Call.{Call}
use Rattle.model.specs.Calls.{reply_of, CallWithBook, ◌with◌}
use Rattle.model.specs.History.{run, sheet_after, state_after, answers_to}
use Rattle.model.specs.Balance.{Balanced}
use Rattle.layout.specs.Present.{rules, machine}
use Rattle.session.specs.Replies.{State, initial, next}
use Rattle.session.specs.Transcript.{exchanges, input_commands}

-- what is read off the exchanges of a session, and no byte of the ledger: the book as it then is, and since the last accepted start (or the
-- beginning) the territory, the calls of the history, each bill and rebill with the book as it then was, and the lines printed for them
pub record Log : Type 0 where
  pub book : List ℕ
  pub territory : ℕ
  pub history : List CallWithBook
  pub replies : List Reply

-- at first: a book of zeros, and a fresh Great Britain ledger
unfoldable pub empty_log : Log
empty_log = record { book = replicate book_length 0; territory = 0; history = []; replies = [] }

abbrev pub is_zero : ℕ → Bool
is_zero zero = true
is_zero (suc n) = false

abbrev pub is_ok : Reply → Bool
is_ok t = is_zero t.refused

-- a call of the history, and the reply to it
abbrev pub with_call : Log → CallWithBook → Reply → Log
with_call l c said = record { book = l.book; territory = l.territory; history = l.history ++ (c ∷ []); replies = l.replies ++ (said ∷ []) }

-- an accepted start begins a history; an accepted price changes the book; day, date and what can't be read are no part of a history
unfoldable pub log_command : Log → Result Command ℕ → Reply → Log
log_command l (Ok (Command.Start territory)) said = cond (is_ok said) (record { book = l.book; territory = territory; history = []; replies = [] }) l
log_command l (Ok (Command.OnLedger c)) said = with_call l (c with l.book) said
log_command l (Ok (Command.Day year month day)) said = l
log_command l (Ok (Command.Date day)) said = l
log_command l (Ok (Command.Price index value)) said =
    cond (is_ok said) (record { book = set l.book index value; territory = l.territory; history = l.history; replies = l.replies }) l
log_command l (Err n) said = l

-- the log of a session's commands, read off the exchanges that its transcript prints, and what the program holds after them
unfoldable pub log_of : List (Result Command ℕ) → Log
log_of commands = run (λ l e. log_command l e.command e.reply) empty_log (exchanges initial commands)

unfoldable pub state_after_commands : List (Result Command ℕ) → State
state_after_commands commands = run next initial commands

-- what is claimed of the log of a session and of the ledger that it leaves
pub record HistoryBalances (log : Log) (ledger : List ℕ) : Type 0 where
  pub territory : log.territory ≤ 1
  -- the ledger is the one that the history leaves
  pub bytes : ledger ≡ state_after machine log.territory log.history
  -- the lines printed are those of the history's answers
  pub answers : log.replies ≡ map reply_of (answers_to machine log.territory log.history)
  -- demand 3, of that history: with the answers printed, and the answer to a total called next
  pub balanced : Balanced rules (sheet_after rules log.territory log.history) (answers_to machine log.territory log.history) (machine.answer ledger (Call.Total with [])) (machine.facts ledger).rows

-- for every input
abbrev pub EverySessionBalances : Type 0
EverySessionBalances = (input : List ℕ) → HistoryBalances (log_of (input_commands input)) (state_after_commands (input_commands input)).ledger
