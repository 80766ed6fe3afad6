-- `reply_of_answer` gives the numbers of each case; a number without sign is read back from 64 bits with one, where it fits.
use mathlib.Core.Path.{◌≡◌, subst}
use native.Mathlib.Omega.{arith}
use Rattle.model.specs.declared.Answer.{Answer}
use Rattle.model.specs.declared.Answer.TheVariants.{Billed, Rebilled, Reported, Totalled}
use Rattle.calls.specs.Replies.{AnswerFits}
use Rattle.calls.proofs.replies.reply_of_answer.Goals as goal

-- the numbers of a case that have 64 bits and no sign fit 64 bits with one
fits : {said case : Answer} → said ≡ case → AnswerFits said → AnswerFits case
fits e f = subst AnswerFits e f

pub overflow_cast-rate : goal.overflow_cast-rate
overflow_cast-rate c = let f : AnswerFits (Billed c.in-Billed.reference c.in-Billed.rate c.in-Billed.amount) = fits c.in-Billed.is c.requires in record { sfits = omega (arith, f.0) }

pub overflow_cast-amount : goal.overflow_cast-amount
overflow_cast-amount c = let f : AnswerFits (Billed c.in-Billed.reference c.in-Billed.rate c.in-Billed.amount) = fits c.in-Billed.is c.requires in record { sfits = omega (arith, f.1) }

pub overflow_cast-rate-in-Rebilled : goal.overflow_cast-rate-in-Rebilled
overflow_cast-rate-in-Rebilled c = let f : AnswerFits (Rebilled c.in-Rebilled.reference c.in-Rebilled.rate c.in-Rebilled.change) = fits c.in-Rebilled.is c.requires in record { sfits = omega (arith, f) }

pub overflow_cast-kwh : goal.overflow_cast-kwh
overflow_cast-kwh c = let f : AnswerFits (Reported c.in-Reported.rows c.in-Reported.kwh c.in-Reported.due) = fits c.in-Reported.is c.requires in record { sfits = omega (arith, f.0) }

pub overflow_cast-due : goal.overflow_cast-due
overflow_cast-due c = let f : AnswerFits (Reported c.in-Reported.rows c.in-Reported.kwh c.in-Reported.due) = fits c.in-Reported.is c.requires in record { sfits = omega (arith, f.1) }

pub overflow_cast-due-in-Totalled : goal.overflow_cast-due-in-Totalled
overflow_cast-due-in-Totalled c = let f : AnswerFits (Totalled c.in-Totalled.due c.in-Totalled.unclaimed) = fits c.in-Totalled.is c.requires in record { sfits = omega (arith, f) }
