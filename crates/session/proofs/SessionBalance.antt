-- Every session balances: the log read off its exchanges follows what the program holds, command by command. Assumes nothing.
use Rattle.std.specs.Prelude.{Result, Ok, Err}
use mathlib.Core.Path.{◌≡◌, refl, sym, ap, ap₂, subst, ◌∙◌}
use mathlib.Core.Bool.{Bool, true, false, not, cond}
use mathlib.Core.List.{List, [], ◌∷◌, ◌++◌, map, map-append}
use Prim.Native.Nat.{ℕ, zero, suc, ◌≤◌}
use native.Mathlib.Omega.{arith}
use borrow.Author.Tests.{ltb-false}
use lib.Dec.{ltb, eqb}
use lib.ListN.{length, set}
use Rattle.text.specs.declared.reading.Command.{Command}
use Rattle.model.specs.declared.Reply.{Reply}
use Rattle.model.specs.declared.Call.{Call}
use Rattle.model.specs.Calls.{reply_of, reply_without_numbers, CallWithBook, ◌with◌, ◌if◌}
use Rattle.model.specs.Ledger.{fresh}
use Rattle.model.specs.Rules.{unless_refused}
use Rattle.model.specs.History.{run, replies, sheet_after, state_after, answers_to}
use Rattle.model.specs.Balance.{Balanced}
use Rattle.model.proofs.Refusals.{clear}
use Rattle.layout.specs.Offsets.{ledger_length}
use Rattle.layout.specs.Present.{rules, bytes, machine}
use Rattle.layout.proofs.Theorems.{demand_three}
use Rattle.contract_calls.specs.Start.{start_refusal, done_unless_refused, start_answer, start_bytes}
use Rattle.session.specs.Replies.{State, holding, initial, on_ledger, bad_price, price_reply, book_with, response_to, reply, next}
use Rattle.session.specs.Transcript.{Exchange, exchanges, input_commands}
use Rattle.session.specs.SessionBalance.{Log, empty_log, is_ok, with_call, log_command, log_of, state_after_commands, EverySessionBalances}

-- ---- a list of inputs with one more
module _ {S C : Type 0} (move : S → C → S) where
  run_more : (cs : List C) (s : S) (c : C) → run move s (cs ++ (c ∷ [])) ≡ move (run move s cs) c
  run_more [] s c = refl
  run_more (d ∷ cs) s c = run_more cs (move s d) c

  module _ {A : Type 0} (reply : S → C → A) where
    replies-more : (cs : List C) (s : S) (c : C) → replies move reply s (cs ++ (c ∷ [])) ≡ replies move reply s cs ++ (reply (run move s cs) c ∷ [])
    replies-more [] s c = refl
    replies-more (d ∷ cs) s c = ap (λ (answers : List A). reply s d ∷ answers) (replies-more cs (move s d) c)

-- ---- what the program holds and the log agree
record Agrees (s : State) (l : Log) : Type 0 where
  book : s.book ≡ l.book
  territory : l.territory ≤ 1
  bytes : s.ledger ≡ state_after machine l.territory l.history
  answers : l.replies ≡ map reply_of (answers_to machine l.territory l.history)

module _ (s : State) (l : Log) (a : Agrees s l) where
  -- after a call of the history
  agrees-call : (c : CallWithBook) → Agrees (on_ledger s c).next (with_call l c (on_ledger s c).reply)
  unfolding state_after answers_to
  agrees-call c =
      let t = l.territory in
      let answered = replies machine.step machine.answer (machine.start t) l.history in
      let more = replies-more machine.step machine.answer l.history (machine.start t) c in
      record {
        book = a.book;
        territory = a.territory;
        bytes = ap (λ (b : List ℕ). machine.step b c) a.bytes ∙ sym (run_more machine.step l.history (machine.start t) c);
        answers =
            ap₂ (λ (ls : List Reply) (b : List ℕ). ls ++ (reply_of (machine.answer b c) ∷ [])) a.answers a.bytes
            ∙ sym (ap (map reply_of) more ∙ map-append reply_of answered (machine.answer (run machine.step (machine.start t) l.history) c ∷ []));
      }

  -- a bill or rebill comes with the program's book, which is the log's
  agrees-request : (call : List ℕ → CallWithBook) → Agrees (on_ledger s (call s.book)).next (with_call l (call l.book) (on_ledger s (call s.book)).reply)
  agrees-request call =
      subst (λ (b : List ℕ). Agrees (on_ledger s (call s.book)).next (with_call l (call b) (on_ledger s (call s.book)).reply)) a.book (agrees-call (call s.book))

  -- after a start, by the number that turns it down
  start-territory : (t : ℕ) → start_refusal s.ledger t ≡ 0 → t ≤ 1
  unfolding start_refusal
  start-territory t e = ltb-false 1 t (clear ((2 if not (eqb (length s.ledger) ledger_length)) ∷ (6 if ltb 1 t) ∷ []) tt e 6)

  agrees-start-by : (t n : ℕ) → start_refusal s.ledger t ≡ n
      → Agrees (holding (unless_refused n (bytes (fresh t)) s.ledger) s.book) (cond (is_ok (reply_of (done_unless_refused n))) (record { book = l.book; territory = t; history = []; replies = [] }) l)
  unfolding state_after answers_to
  agrees-start-by t zero e = record { book = a.book; territory = start-territory t e; bytes = refl; answers = refl }
  agrees-start-by t (suc n) e = record { book = a.book; territory = a.territory; bytes = a.bytes; answers = a.answers }

  -- after a price, by whether it is turned down
  agrees-price-by : (index value : ℕ) (t : Bool) → Agrees (holding s.ledger (cond t s.book (set s.book index value)))
      (cond (is_ok (cond t (reply_without_numbers 8) (reply_without_numbers 0))) (record { book = set l.book index value; territory = l.territory; history = l.history; replies = l.replies }) l)
  agrees-price-by index value true = record { book = a.book; territory = a.territory; bytes = a.bytes; answers = a.answers }
  agrees-price-by index value false =
      record { book = ap (λ (b : List ℕ). set b index value) a.book; territory = a.territory; bytes = a.bytes; answers = a.answers }

  -- after any command
  agrees-next : (c : Result Command ℕ) → Agrees (next s c) (log_command l c (reply s c))
  unfolding response_to log_command start_answer start_bytes price_reply book_with
  agrees-next (Ok (Command.Start territory)) = agrees-start-by territory (start_refusal s.ledger territory) refl
  agrees-next (Ok (Command.OnLedger c)) = agrees-request (◌with◌ c)
  agrees-next (Ok (Command.Day year month day)) = a
  agrees-next (Ok (Command.Date day)) = a
  agrees-next (Ok (Command.Price index value)) = agrees-price-by index value (bad_price index value)
  agrees-next (Err n) = a

agrees_after : (cs : List (Result Command ℕ)) (s : State) (l : Log) → Agrees s l → Agrees (run next s cs) (run (λ (m : Log) (e : Exchange). log_command m e.command e.reply) l (exchanges s cs))
agrees_after [] s l a = a
agrees_after (c ∷ cs) s l a = agrees_after cs (next s c) (log_command l c (reply s c)) (agrees-next s l a c)

agrees_first : Agrees initial empty_log
unfolding initial empty_log state_after answers_to
agrees_first = record { book = refl; territory = omega arith; bytes = refl; answers = refl }

agrees : (cs : List (Result Command ℕ)) → Agrees (state_after_commands cs) (log_of cs)
unfolding state_after_commands log_of
agrees cs = agrees_after cs initial empty_log agrees_first

-- the lines printed for the history's calls are those of its answers
pub log-answers : (cs : List (Result Command ℕ)) → (log_of cs).replies ≡ map reply_of (answers_to machine (log_of cs).territory (log_of cs).history)
log-answers cs = (agrees cs).answers

pub every_session_balances : EverySessionBalances
every_session_balances input =
    let a = agrees (input_commands input) in
    let l = log_of (input_commands input) in
    record {
      territory = a.territory;
      bytes = a.bytes;
      answers = a.answers;
      balanced =
          subst
          (λ (b : List ℕ). Balanced rules (sheet_after rules l.territory l.history) (answers_to machine l.territory l.history) (machine.answer b (Call.Total with [])) (machine.facts b).rows)
          (sym a.bytes)
          (demand_three.balances l.territory a.territory l.history);
    }
