-- A line as a command: a call's name and its numbers, single spaces between. Assumes nothing.
use Rattle.std.specs.Prelude.{cond, List, [], ◌∷◌, ℕ, zero, suc, Option, Some, None, Result, Ok, Err}
use Prim.Native.String.{String}
use Rattle.model.specs.declared.Call.{Call}
use Rattle.model.specs.Calls.{request_of}
use Rattle.text.specs.declared.reading.Command.{Command}
use Rattle.text.specs.Bytes.{ascii, space}
use Rattle.text.specs.Pieces.{pieces, same_text}
use Rattle.text.specs.Numbers.{numbers_of}

-- what makes a command out of k numbers
abbrev pub Takes : ℕ → Type 0
Takes zero = Command
Takes (suc k) = ℕ → Takes k

-- the form of a call's line: its name, how many numbers follow, and the command that they make
pub record Form : Type 0 where
  pub name : List ℕ
  pub count : ℕ
  pub make : Takes count

abbrev pub form : String → (k : ℕ) → Takes k → Form
form name k make = record { name = ascii name; count = k; make = make }

-- the calls by name, with how many numbers each takes
abbrev pub forms : List Form
forms =
    form "start" 1 Command.Start ∷
    form "open" 5 (λ c fuel kind fix entry. Command.OnLedger (Call.Open c fuel kind fix entry)) ∷
    form "bill" 8 (λ c first last kwh supply wap etii qhs. Command.OnLedger (Call.Bill (request_of c first last kwh supply wap etii qhs))) ∷
    form "rebill" 8 (λ c first last kwh supply wap etii qhs. Command.OnLedger (Call.Rebill (request_of c first last kwh supply wap etii qhs))) ∷
    form "cert" 3 (λ c class effective. Command.OnLedger (Call.Cert c class effective)) ∷
    form "cancel" 2 (λ c first. Command.OnLedger (Call.Cancel c first)) ∷
    form "claim" 0 (Command.OnLedger Call.Claim) ∷
    form "report" 1 (λ c. Command.OnLedger (Call.Report c)) ∷
    form "total" 0 (Command.OnLedger Call.Total) ∷
    form "amend" 4 (λ c end fix entry. Command.OnLedger (Call.Amend c end fix entry)) ∷
    form "day" 3 Command.Day ∷
    form "date" 1 Command.Date ∷
    form "price" 2 Command.Price ∷
    []

-- no call takes more numbers
abbrev pub most_numbers : ℕ
most_numbers = 8

-- no line that can be read is shorter
abbrev pub shortest_line : ℕ
shortest_line = 5

-- the form that has a name, if one has it
unfoldable pub form_named : List Form → List ℕ → Option Form
form_named [] word = None
form_named (f ∷ fs) word = cond (same_text word f.name) (Some f) (form_named fs word)

-- number 1: the line can't be read
abbrev pub no_command : Result Command ℕ
no_command = Err 1

-- the command that numbers make; another count of them makes none
abbrev pub command_with : (k : ℕ) → Takes k → List ℕ → Result Command ℕ
command_with zero make [] = Ok make
command_with zero make (n ∷ ns) = no_command
command_with (suc k) make [] = no_command
command_with (suc k) make (n ∷ ns) = command_with k (make n) ns

-- the command of a name and numbers: an unknown name, or a word that is no number, makes none
abbrev pub command_by : Option Form → Option (List ℕ) → Result Command ℕ
command_by None numbers = no_command
command_by (Some f) None = no_command
command_by (Some f) (Some ns) = command_with f.count f.make ns

-- the command of a line's words
abbrev pub command_of_words : List (List ℕ) → Result Command ℕ
command_of_words [] = no_command
command_of_words (name ∷ words) = command_by (form_named forms name) (numbers_of words)

-- the command of a line, without its line feed, or number 1
unfoldable pub command_of : List ℕ → Result Command ℕ
command_of line = command_of_words (pieces space line)
