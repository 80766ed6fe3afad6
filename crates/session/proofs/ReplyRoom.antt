-- How much room a reply takes: the numbers of the refusals have at most two digits, so that no line is longer than the longest, and a line
-- that can be read is no shorter than the shortest; one that can't be read is refused in 10 bytes. Assumes nothing.
use Rattle.std.specs.Prelude.{Result, Ok, Err, Option, Some, None}
use mathlib.Core.Path.{◌≡◌, refl, ap, ◌∙◌}
use mathlib.Core.Bool.{Bool, true, false, not, cond}
use mathlib.Core.List.{List, [], ◌∷◌, map}
use mathlib.Core.Logic.{⊎_elim}
use Prim.Native.Nat.{ℕ, zero, suc, ◌+◌, ◌*◌, ◌≤◌, ◌<◌}
use native.Mathlib.Omega.{arith}
use lib.Dec.{ltb, eqb}
use lib.ListN.{length}
use Rattle.basics.specs.Tests.{every}
use Rattle.basics.proofs.Tests.{and_left, and_right, lt_yes}
use Rattle.calendar.specs.declared.CalendarDate.{CalendarDate}
use Rattle.calendar.specs.Answers.{day_of_date, date_of_day, in_table}
use Rattle.text.specs.declared.reading.Command.{Command}
use Rattle.text.specs.Commands.{command_of, no_command, shortest_line}
use Rattle.text.specs.Lines.{line_text, line_room, WroteWithin}
use Rattle.text.proofs.LineRoom.{Short, short-room, refused-room}
use Rattle.text.proofs.Writes.{wrote-same}
use Rattle.text.proofs.ReadableLines.{no-shorter-line}
use Rattle.model.specs.declared.Reply.{Reply}
use Rattle.model.specs.declared.Answer.{Answer}
use Rattle.model.specs.declared.Call.{Call}
use Rattle.model.specs.Calls.{reply_of, reply_without_numbers, CallWithBook, ◌with◌, Test, ◌if◌, first_of, answer_numbers}
use Rattle.model.specs.Rules.{refusal, unless_refused}
use Rattle.model.specs.Ledger.{Ledger, view, answer, outcome, accept, outcome_turned_down}
use Rattle.model.specs.PresentRules.{tests}
use Rattle.layout.specs.Layout.{is_well_formed}
use Rattle.layout.specs.Offsets.{ledger_length}
use Rattle.layout.specs.Present.{rules, layout, facts, machine}
use Rattle.contract_calls.specs.Start.{start_refusal, done_unless_refused, start_answer}
use Rattle.calls.specs.Replies.{reply_of_day, reply_of_date}
use Rattle.session.specs.Replies.{State, bad_price, price_reply, response_to, reply, next}
use Rattle.session.specs.Transcript.{output_per_byte}

-- ---- the numbers of tests have at most two digits
two_digits : List Test → Bool
two_digits ts = every (map (λ (t : Test). ltb t.number 100) ts)

first-low : (ts : List Test) → two_digits ts ≡ true → first_of ts < 100
unfolding two_digits
first-low [] h = omega arith
first-low (t ∷ ts) h = go t.fits (lt_yes t.number 100 (and_left (ltb t.number 100) (two_digits ts) h)) (first-low ts (and_right (ltb t.number 100) (two_digits ts) h))
  where
    go : (b : Bool) {m n : ℕ} → m < 100 → n < 100 → cond b m n < 100
    go true l k = l
    go false l k = k

-- ---- the reply to a call of a history: the tests of the call, and what it answers where it is accepted
call-short : (l : Ledger) (c : CallWithBook) → (two_digits (tests (view l) c) ≡ true) × Short (reply_of (accept rules l c).answers)
unfolding tests two_digits accept
call-short l (Call.Open c fuel kind fix entry with book) = (refl, omega arith)
call-short l (Call.Bill q with book) = (refl, omega arith)
call-short l (Call.Rebill q with book) = (refl, omega arith)
call-short l (Call.Cert c class effective with book) = (refl, omega arith)
call-short l (Call.Cancel c first with book) = (refl, omega arith)
call-short l (Call.Claim with book) = (refl, omega arith)
call-short l (Call.Report c with book) = (refl, omega arith)
call-short l (Call.Total with book) = (refl, omega arith)
call-short l (Call.Amend c end fix entry with book) = (refl, omega arith)

answer-short : (l : Ledger) (c : CallWithBook) → Short (reply_of (answer rules l c))
unfolding answer outcome refusal
answer-short l c = go (refusal rules (view l) c) (first-low (tests (view l) c) (call-short l c).0)
  where
    go : (n : ℕ) → n < 100 → Short (reply_of (unless_refused n (accept rules l c) (outcome_turned_down l n)).answers)
    go zero h = (call-short l c).1
    go (suc n) h = omega arith

machine-short : (b : List ℕ) (c : CallWithBook) → Short (reply_of (machine.answer b c))
machine-short b c = go (is_well_formed rules layout b) (answer rules (facts b) c) (answer-short (facts b) c)
  where
    go : (t : Bool) (a : Result Answer ℕ) → Short (reply_of a) → Short (reply_of (cond t a (Err 2)))
    go true a h = h
    go false a h = omega arith

-- ---- the replies to the other commands
start-short : (b : List ℕ) (territory : ℕ) → Short (reply_of (start_answer b territory))
unfolding start_answer start_refusal two_digits
start-short b territory = go (start_refusal b territory) (first-low ((2 if not (eqb (length b) ledger_length)) ∷ (6 if ltb 1 territory) ∷ []) refl)
  where
    go : (n : ℕ) → n < 100 → Short (reply_of (done_unless_refused n))
    go zero h = omega arith
    go (suc n) h = omega arith

day-short : (a : Option ℕ) → Short (reply_of_day (in_table a))
day-short None = omega arith
day-short (Some day) = omega arith

date-short : (a : Option CalendarDate) → Short (reply_of_date (in_table a))
date-short None = omega arith
date-short (Some date) = omega arith

price-short : (index value : ℕ) → Short (price_reply index value)
unfolding price_reply
price-short index value = go (bad_price index value)
  where
    go : (t : Bool) → Short (cond t (reply_without_numbers 8) (reply_without_numbers 0))
    go true = omega arith
    go false = omega arith

pub reply-short : (s : State) (c : Result Command ℕ) → Short (reply s c)
unfolding response_to
reply-short s (Ok (Command.Start territory)) = start-short s.ledger territory
reply-short s (Ok (Command.OnLedger c)) = machine-short s.ledger (c with s.book)
reply-short s (Ok (Command.Day year month day)) = day-short (day_of_date year month day)
reply-short s (Ok (Command.Date day)) = date-short (date_of_day day)
reply-short s (Ok (Command.Price index value)) = price-short index value
reply-short s (Err n) = omega arith

-- ---- the reply to a line, whose command is c
line-room : (s : State) (line : List ℕ) → line_room (reply s (command_of line)) ≤ output_per_byte * (length line + 1)
unfolding response_to
line-room s line = ⊎_elim
    (λ (e : command_of line ≡ no_command). rw e (omega (arith, refused-room 0 1 (omega arith) (omega arith))))
    (λ (l : shortest_line ≤ length line). omega (arith, short-room (reply s (command_of line)) (reply-short s (command_of line))))
    (no-shorter-line line)

module _ (s : State) (line : List ℕ) {c : Result Command ℕ} (k : c ≡ command_of line) where
  pub next-held : {after : State} → after ≡ next s c → after ≡ next s (command_of line)
  next-held e = e ∙ ap (next s) k

  module _ {said : Reply} (e : said ≡ reply s c) where
    is-reply : said ≡ reply s (command_of line)
    is-reply = e ∙ ap (reply s) k

    pub said-few : said.count ≤ answer_numbers
    said-few = rw is-reply (reply-short s (command_of line)).few

    pub said-room : (at n : ℕ) → at + output_per_byte * (length line + 1) ≤ n → at + line_room said ≤ n
    said-room at n h = rw is-reply (omega (arith, line-room s line))

    pub said-written : {d f : List ℕ} {at r : ℕ} → WroteWithin (line_room said) d f at r (line_text said)
        → WroteWithin (output_per_byte * (length line + 1)) d f at r (line_text (reply s (command_of line)))
    said-written w =
        let l : line_room said ≤ output_per_byte * (length line + 1) = rw is-reply (line-room s line) in
        record { wrote = wrote-same w.wrote refl (ap line_text is-reply); within = omega (arith, w.within) }
