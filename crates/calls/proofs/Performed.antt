-- A call that is passed on by its case, and what `perform` owes of it. Assumes nothing.
use Rattle.std.specs.Prelude.{Result}
use Rattle.refusals.specs.declared.Refusal.{Refusal}
use mathlib.Core.Path.{◌≡◌, sym, subst}
use mathlib.Core.List.{List}
use Prim.Native.Nat.{ℕ}
use Rattle.model.specs.declared.Answer.{Answer}
use Rattle.model.specs.declared.Call.{Call}
use Rattle.model.specs.Calls.{CallWithBook, ◌with◌}
use Rattle.ledger.specs.Answered.{Answered, AnsweredWithAnyBook}
use Rattle.calls.specs.Replies.{Performed}
use Rattle.calls.proofs.AnswersFit.{same-fits, machine-fits}

module _ (b book after : List ℕ) (call is : Call) (said : Result Answer Refusal) (e : call ≡ is) where
  pub passed_on : Answered b (is with book) said after → Answered b (call with book) said after
  passed_on h = subst (λ (c : Call). Answered b (c with book) said after) (sym e) h

  pub passed-on-any : AnsweredWithAnyBook b is said after → Answered b (call with book) said after
  passed-on-any h = passed_on (h book)

module _ (b : List ℕ) (call : CallWithBook) where
  pub performed : (said : Result Answer Refusal) (after : List ℕ) → Answered b call said after → Performed b call said after
  performed said after h = record { answered = h.answered; left = h.left; fits = same-fits said h.answered (machine-fits b call) }
