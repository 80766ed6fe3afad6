-- How much room a line takes. Assumes nothing.
use mathlib.Core.Path.{◌≡◌, refl}
use mathlib.Core.Bool.{Bool, true, false}
use Prim.Native.Nat.{ℕ, suc, ◌+◌, ◌^◌, ◌≤◌, ◌<◌}
use native.Mathlib.Omega.{arith}
use borrow.Author.Tests.{ne_eqb}
use lib.Dec.{eqb}
use Rattle.model.specs.declared.Reply.{Reply}
use Rattle.model.specs.Calls.{reply_without_numbers, answer_numbers}
use Rattle.text.specs.Lines.{line_room, longest_line}
use Rattle.text.proofs.Digits.{few-digits}

-- a refusal by a number of at most k + 1 digits
pub refused-room : (k n : ℕ) → 1 ≤ n → n < 10 ^ suc k → line_room (reply_without_numbers n) ≤ 10 + k
refused-room k n p h = rw (ne_eqb n 0 (λ e. omega arith)) (omega (arith, few-digits k n h))

-- a reply whose line is not too long: its numbers are not too many, and the number of a refusal has at most two digits
pub record Short (t : Reply) : Type 0 where
  pub few : t.count ≤ answer_numbers
  pub digits : t.refused < 100

pub short-room : (t : Reply) → Short t → line_room t ≤ longest_line
short-room t s = go (eqb t.refused 0) refl
  where
    go : (b : Bool) → eqb t.refused 0 ≡ b → line_room t ≤ longest_line
    go true e = rw e (omega (arith, s.few))
    go false e = rw e (omega (arith, few-digits 1 t.refused s.digits))
