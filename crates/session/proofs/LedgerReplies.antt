-- The reply of a call on the ledger, from what the call answers and leaves. Assumes nothing.
use Rattle.std.specs.Prelude.{Result, Ok, Err, IfOk}
use mathlib.Core.Path.{◌≡◌, sym, subst, ap, ◌∙◌}
use mathlib.Core.List.{List}
use Prim.Native.Nat.{ℕ}
use Rattle.model.specs.Calls.{reply_of}
use Rattle.model.specs.declared.Reply.{Reply}
use Rattle.refusals.specs.declared.Refusal.{Refusal}
use Rattle.model.specs.declared.Answer.{Answer}
use Rattle.model.specs.declared.Answer.TheVariants.{Done}
use Rattle.calls.specs.Replies.{AnswerFits}
use Rattle.session.specs.Replies.{holding}

-- the line of the answer
pub line-said : {line : Reply} {a b : Result Answer ℕ} → line ≡ reply_of a → a ≡ b → line ≡ reply_of b
line-said h e = h ∙ ap reply_of e

-- another ledger with the same book, and another book with the same ledger
pub ledger-left : {ledger after book : List ℕ} → after ≡ ledger → holding after book ≡ holding ledger book
ledger-left {book = book} e = ap (λ (l : List ℕ). holding l book) e

pub book-left : {ledger book after : List ℕ} → after ≡ book → holding ledger after ≡ holding ledger book
book-left {ledger} e = ap (holding ledger) e

-- what a price answers has no numbers
pub price-fits : (said : Result Answer Refusal) → IfOk said (λ answer. answer ≡ Done) → IfOk said AnswerFits
price-fits (Ok a) e = subst AnswerFits (sym e) tt
price-fits (Err r) e = tt
