-- The answers whose numbers fit 64 bits with a sign, as all answers of the ledger's calls do, the replies of day and date, and what `perform` owes. Assumes nothing.
use Rattle.std.specs.Prelude.{◌≡◌, List, [], ◌∷◌, ℕ, ◌<◌, ◌^◌, ℤ, Result, IfOk}
use Rattle.refusals.specs.declared.Refusal.{Refusal}
use Rattle.refusals.specs.Numbers.{by_number, number_in}
use Rattle.calendar.specs.declared.CalendarDate.{CalendarDate}
use Rattle.calendar.specs.Answers.{values_of_day, values_of_date}
use Rattle.model.specs.declared.Answer.{Answer}
use Rattle.model.specs.declared.Answer.TheVariants.{Done, Billed, Rebilled, Certified, Cancelled, Claimed, Reported, Totalled}
use Rattle.model.specs.declared.Reply.{Reply}
use Rattle.model.specs.Calls.{CallWithBook, answer_numbers, padded, reply_of_values}
use Rattle.layout.specs.Present.{machine}

-- so many of the first three numbers, zeros after them
abbrev pub reply_with : ℕ → ℤ → ℤ → ℤ → Reply
reply_with count x y z = record { refused = 0; count = count; numbers = padded answer_numbers (x ∷ y ∷ z ∷ []) }

-- the replies of day and date
abbrev pub reply_of_day : Result ℕ ℕ → Reply
reply_of_day a = reply_of_values (number_in a) (values_of_day a)

abbrev pub reply_of_date : Result CalendarDate ℕ → Reply
reply_of_date a = reply_of_values (number_in a) (values_of_date a)

-- a natural number that fits 64 bits with a sign
abbrev pub FitsSigned : ℕ → Type 0
FitsSigned n = n < 2 ^ 63

-- an answer's numbers that have 64 bits and no sign; its other numbers have a sign or 32 bits
abbrev pub AnswerFits : Answer → Type 0
AnswerFits Done = Unit {0}
AnswerFits (Billed reference rate amount) = FitsSigned rate × FitsSigned amount
AnswerFits (Rebilled reference rate change) = FitsSigned rate
AnswerFits (Certified change rows) = Unit {0}
AnswerFits (Cancelled change) = Unit {0}
AnswerFits (Claimed pence rest) = Unit {0}
AnswerFits (Reported rows kwh due) = FitsSigned kwh × FitsSigned due
AnswerFits (Totalled due unclaimed) = FitsSigned due

-- a call on a ledger's bytes answers what the machine answers, a refusal by its number, and leaves what it leaves, and the answer fits
pub record Performed (ledger : List ℕ) (call : CallWithBook) (answer : Result Answer Refusal) (after : List ℕ) : Type 0 where
  pub answered : by_number answer ≡ machine.answer ledger call
  pub left : after ≡ machine.step ledger call
  pub fits : IfOk answer AnswerFits
