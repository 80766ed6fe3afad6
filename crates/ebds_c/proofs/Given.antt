-- What C gets of an answer. Assumes nothing.
use Rattle.std.specs.Prelude.{Result, IfOk}
use Rattle.std.proofs.Common.{List, [], ℕ}
use Rattle.refusals.specs.declared.Refusal.{Refusal}
use Rattle.model.specs.declared.Answer.{Answer}
use Rattle.model.specs.declared.Call.{Call}
use Rattle.model.specs.Calls.{◌with◌}
use Rattle.ledger.specs.Answered.{AnsweredWithAnyBook}
use Rattle.calls.specs.Replies.{AnswerFits}
use Rattle.calls.proofs.AnswersFit.{machine-fits, same-fits}

-- of a call that reads no book
pub answered-fits : (b after : List ℕ) (call : Call) (said : Result Answer Refusal) → AnsweredWithAnyBook b call said after → IfOk said AnswerFits
answered-fits b after call said h = same-fits said (h []).answered (machine-fits b (call with []))
