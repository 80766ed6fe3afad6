-- Document 01, "The program and one run": a line of each call, and lines that can't be read, with their commands. Assumes nothing.
use Rattle.std.specs.Prelude.{◌≡◌, List, [], ◌∷◌, map, Ok, Err}
use Prim.Native.String.{String}
use Rattle.model.specs.declared.Call.{Call}
use Rattle.model.specs.Calls.{request_of}
use Rattle.text.specs.declared.reading.Command.{Command}
use Rattle.text.specs.Bytes.{ascii}
use Rattle.text.specs.Commands.{command_of}

-- a line, without its line feed, and its command
pub record LineExample : Type 0 where
  pub line : String
  pub command : Command

infix 4 ◌reads◌
abbrev pub ◌reads◌ : String → Command → LineExample
line reads command = record { line = line; command = command }

-- "a call's name and its numbers in the order above, single spaces between"
unfoldable pub readable : List LineExample
readable =
    ("start 1" reads Command.Start 1)
    ∷ ("open 10 11 12 13 14" reads Command.OnLedger (Call.Open 10 11 12 13 14))
    ∷ ("bill 10 11 12 13 14 15 16 17" reads Command.OnLedger (Call.Bill (request_of 10 11 12 13 14 15 16 17)))
    ∷ ("rebill 10 11 12 13 14 15 16 17" reads Command.OnLedger (Call.Rebill (request_of 10 11 12 13 14 15 16 17)))
    ∷ ("cert 10 11 12" reads Command.OnLedger (Call.Cert 10 11 12))
    ∷ ("cancel 10 11" reads Command.OnLedger (Call.Cancel 10 11))
    ∷ ("claim" reads Command.OnLedger Call.Claim)
    ∷ ("report 10" reads Command.OnLedger (Call.Report 10))
    ∷ ("total" reads Command.OnLedger Call.Total)
    ∷ ("amend 10 11 12 13" reads Command.OnLedger (Call.Amend 10 11 12 13))
    ∷ ("day 2024 2 29" reads Command.Day 2024 2 29)
    ∷ ("date 0" reads Command.Date 0)
    ∷ ("date 4294967295" reads Command.Date 4294967295)
    ∷ ("price 1739 999999" reads Command.Price 1739 999999)
    ∷ []

-- an empty line, an unknown name, a wrong count of numbers, more than single spaces, a leading zero, more than ten digits, a number above
-- 4,294,967,295, what is no number
unfoldable pub unreadable : List String
unreadable =
    "" ∷ "bills" ∷ "Total" ∷ "report" ∷ "total 1" ∷ "cancel 10 11 12" ∷ "bill 10 11 12 13 14 15" ∷ "bill 10 11 12 13 14 15 16"
    ∷ "bill 10 11 12 13 14 15 16 17 18" ∷ "rebill 10 11 12 13 14 15 16" ∷ "amend 10 11 12" ∷ "amend 10 11 12 13 14" ∷ "date  1" ∷ " date 1" ∷ "date 1 " ∷ "date 01" ∷ "date 10000000000"
    ∷ "date 4294967296" ∷ "date -1" ∷ "date +1" ∷ "date 1x" ∷ []

pub record LinesRead : Type 0 where
  pub as_commands : map (λ e. command_of (ascii e.line)) readable ≡ map (λ e. Ok e.command) readable
  -- 1: "The program's line can't be read"
  pub as_unreadable : map (λ line. command_of (ascii line)) unreadable ≡ map (λ _. Err 1) unreadable
