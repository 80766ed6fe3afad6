-- What a function for C gives: the number that it returns, the numbers of the answer and, of a call on the ledger, the bytes left. Assumes nothing.
use Rattle.std.specs.Prelude.{◌≡◌, List, ℕ, ℤ}
use Rattle.model.specs.declared.Reply.{Reply}
use Rattle.model.specs.Calls.{CallWithBook, reply_of}
use Rattle.layout.specs.Present.{machine}

-- of a reply: the number of the refusal is returned, and all numbers of the answer are written
pub record Given (reply : Reply) (returned : ℕ) (answer : List ℤ) : Type 0 where
  pub number : returned ≡ reply.refused
  pub values : answer ≡ reply.numbers

-- a call on a ledger's bytes gives the reply of the machine's answer, and leaves the machine's bytes
pub record Gives (ledger : List ℕ) (call : CallWithBook) (returned : ℕ) (answer : List ℤ) (after : List ℕ) : Type 0 where
  pub given : Given (reply_of (machine.answer ledger call)) returned answer
  pub left : after ≡ machine.step ledger call
