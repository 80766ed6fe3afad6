-- Document 01, "The program and one run": what the program holds, and for each command the line that it prints and what it then holds. Assumes nothing.
use Rattle.std.specs.Prelude.{Bool, cond, ◌||◌, List, ℕ, leb, ltb, replicate, set, Result, Ok, Err}
use Rattle.limits.specs.Limits.{highest_price, book_length}
use Rattle.calendar.specs.Answers.{day_answer, date_answer}
use Rattle.text.specs.declared.reading.Command.{Command}
use Rattle.model.specs.declared.Reply.{Reply}
use Rattle.model.specs.Calls.{reply_of, reply_without_numbers, CallWithBook, ◌with◌}
use Rattle.layout.specs.Present.{machine}
use Rattle.contract_calls.specs.Start.{start_answer, start_bytes}
use Rattle.calls.specs.Replies.{reply_of_day, reply_of_date}

-- what the program holds: the ledger's bytes and the price book
pub record State : Type 0 where
  pub ledger : List ℕ
  pub book : List ℕ

abbrev pub holding : (ledger book : List ℕ) → State
holding ledger book = record { ledger = ledger; book = book }

-- at first: a fresh Great Britain ledger and a book of zeros
unfoldable pub initial : State
initial = holding (machine.start 0) (replicate book_length 0)

-- the reply to a command, whose line is printed, and what is held after it
pub record Response : Type 0 where
  pub reply : Reply
  pub next : State

-- a reply, and nothing is changed
abbrev pub saying : State → Reply → Response
saying s said = record { reply = said; next = s }

-- a call of a history on the ledger: the machine on the bytes
abbrev pub on_ledger : State → CallWithBook → Response
on_ledger s c = record {
  reply = reply_of (machine.answer s.ledger c);
  next = holding (machine.step s.ledger c) s.book;
}

-- start keeps the book
abbrev pub starting : State → (territory : ℕ) → Response
starting s territory = record {
  reply = reply_of (start_answer s.ledger territory);
  next = holding (start_bytes s.ledger territory) s.book;
}

-- number 8: a book entry's index is past the book's end or its value above the highest price
abbrev pub bad_price : (index value : ℕ) → Bool
bad_price index value = leb book_length index || ltb highest_price value

-- price sets a book entry and answers no numbers
unfoldable pub price_reply : (index value : ℕ) → Reply
price_reply index value = cond (bad_price index value) (reply_without_numbers 8) (reply_without_numbers 0)

unfoldable pub book_with : (index value : ℕ) → List ℕ → List ℕ
book_with index value book = cond (bad_price index value) book (set book index value)

abbrev pub pricing : State → (index value : ℕ) → Response
pricing s index value = record { reply = price_reply index value; next = holding s.ledger (book_with index value s.book) }

-- what each line's command prints and leaves, and one that can't be read
unfoldable pub response_to : State → Result Command ℕ → Response
response_to s (Ok (Command.Start territory)) = starting s territory
response_to s (Ok (Command.OnLedger c)) = on_ledger s (c with s.book)
response_to s (Ok (Command.Day year month day)) = saying s (reply_of_day (day_answer year month day))
response_to s (Ok (Command.Date day)) = saying s (reply_of_date (date_answer day))
response_to s (Ok (Command.Price index value)) = pricing s index value
response_to s (Err n) = saying s (reply_without_numbers 1)

-- the reply, whose line is printed, and what is held next
abbrev pub reply : State → Result Command ℕ → Reply
reply s c = (response_to s c).reply

abbrev pub next : State → Result Command ℕ → State
next s c = (response_to s c).next
