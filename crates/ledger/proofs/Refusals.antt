-- The first of a call's tests that fits, from what each test finds; and what a call answers by it. Assumes nothing.
use Rattle.std.specs.Prelude.{Ok, Err}
use mathlib.Core.Path.{◌≡◌, sym, ◌∙◌}
use mathlib.Core.Bool.{false}
use mathlib.Core.List.{List, ◌++◌}
use Prim.Native.Nat.{ℕ, ◌<◌, ◌≤◌}
use native.Mathlib.Omega.{arith}
use lib.Dec.{T}
use Rattle.basics.proofs.Tests.{le-no}
use Rattle.limits.specs.Limits.{contract_count}
use Rattle.refusals.specs.declared.Refusal.{Refusal}
use Rattle.refusals.specs.Numbers.{number_of}
use Rattle.refusals.proofs.SomeNumber.{some_number}
use Rattle.model.specs.declared.Answer.{Answer}
use Rattle.model.specs.Calls.{CallWithBook, View, Test, first_of}
use Rattle.model.specs.Rules.{refusal}
use Rattle.model.specs.Ledger.{accept}
use Rattle.model.specs.PresentRules.{open_tests}
use Rattle.model.proofs.Refusals.{fits_at, numbered, clear, refused-first, refused-later}
use Rattle.layout.specs.declared.Totals.{Totals}
use Rattle.layout.specs.Present.{rules, facts, bytes, Formed, checked_of, Searched}
use Rattle.layout.proofs.Present.{present}
use Rattle.layout.proofs.Machine.{malformed-refused, machine-refused, machine-accepted, check_sound, searched}
use Rattle.ledger.specs.Answered.{view_of, Summed, Answered}

-- ---- a list of tests

open-numbered : (v : View) (c : ℕ) → T (numbered (open_tests v c))
unfolding open_tests
open-numbered v c = tt

-- a list that begins with 4 and 5
module _ (v : View) (c m : ℕ) (later : List Test) where
  pub open-refused : 1 ≤ m → m ≡ first_of (open_tests v c) → m ≡ first_of (open_tests v c ++ later)
  open-refused some e = refused-first (open_tests v c) later m e (λ z. omega arith)

  pub open-passed : 0 ≡ first_of (open_tests v c) → m ≡ first_of later → m ≡ first_of (open_tests v c ++ later)
  open-passed none e = refused-later (open_tests v c) later m (open-numbered v c) none e

-- what passing them says of the contract
module _ (b : List ℕ) (c : ℕ) (none : 0 ≡ first_of (open_tests (view_of b) c)) where
  passed : (m : ℕ) → fits_at (open_tests (view_of b) c) m ≡ false
  unfolding open_tests
  passed m = clear (open_tests (view_of b) c) tt (sym none) m

  pub contract-low : c < contract_count
  unfolding open_tests
  contract-low = le-no contract_count c (passed 4)

-- ---- what a call answers and leaves

module _ (b : List ℕ) (call : CallWithBook) where
  pub refused-answered : (r : Refusal) → Formed b → number_of r ≡ refusal rules (view_of b) call → Answered b call (Err r) b
  refused-answered r f e =
      let m = machine-refused present b call f (number_of r) (some_number r) (sym e) in
      record { answered = sym m.answered; left = sym m.left }

  pub accepted-answered : {a : Answer} {after : List ℕ} → Formed b → 0 ≡ refusal rules (view_of b) call
      → Ok a ≡ (accept rules (facts b) call).answers → after ≡ bytes (accept rules (facts b) call).next → Answered b call (Ok a) after
  accepted-answered f e said left =
      let m = machine-accepted present b call f (sym e) in
      record { answered = said ∙ sym m.answered; left = left ∙ sym m.left }

-- ---- what a check found

module _ (b : List ℕ) where
  pub malformed-answered : (r : Refusal) → Err r ≡ checked_of b → (call : CallWithBook) → Answered b call (Err r) b
  malformed-answered r e call =
      let m = malformed-refused present b call r e in
      record { answered = sym m.answered; left = sym m.left }

  module _ (t : Totals) (e : Ok t ≡ checked_of b) where
    pub check-searched : Searched b t.rows
    check-searched = searched present b (check_sound present b t e)

    pub check-summed : Summed b t.rows t.due
    check-summed = record { searched = check-searched; total = (check_sound present b t e).total }
