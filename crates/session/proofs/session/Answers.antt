-- `session` writes the transcript: of an input that is too long the one line, else that of its lines from the initial state.
use Rattle.session.specs.Replies.{initial}
use borrow.Author.Rules.{rules}
use Rattle.session.proofs.Lines.{long-written, whole-written}
use Rattle.session.proofs.session.Goals as goal

pub returns-then-input-gt-MOST_INPUT : goal.returns-then-input-gt-MOST_INPUT
returns-then-input-gt-MOST_INPUT c = search (long-written, rules)

pub returns : goal.returns
unfolding initial
returns c = search (whole-written, rules)
