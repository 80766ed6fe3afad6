-- `reply` replies to each command: a call of a history by what it answers and leaves.
use mathlib.Core.Path.{refl, ap, ◌∙◌}
use Rattle.model.specs.Calls.{reply_without_numbers}
use Rattle.session.specs.Replies.{response_to}
use Rattle.calls.proofs.AnswersFit.{start_fits, same-fits}
use Rattle.session.proofs.LedgerReplies.{line-said, ledger-left, book-left, price-fits}
use Rattle.session.proofs.replies.reply.Goals as goal

pub returns-in_default : goal.returns-in_default
unfolding response_to
returns-in_default c = rw c.in_default.is (record { reply = c.reply_without_numbers.ensures ∙ ap reply_without_numbers c.from.ensures; next = refl })

pub reply_of-requires : goal.reply_of-requires
reply_of-requires c = same-fits c.start.result c.start.ensures.0 (start_fits _ _)

pub reply_of-requires-in-OnLedger : goal.reply_of-requires-in-OnLedger
reply_of-requires-in-OnLedger c = c.perform.ensures.fits

pub reply_of-requires-in-Price : goal.reply_of-requires-in-Price
reply_of-requires-in-Price c = price-fits c.set_price.result c.set_price.ensures.done

pub returns-in-Start : goal.returns-in-Start
unfolding response_to
returns-in-Start c = rw (c.in-Ok.is, c.in-Start.is) (record { reply = line-said c.reply_of.ensures c.start.ensures.0; next = ledger-left c.start.ensures.1 })

pub returns-in-OnLedger : goal.returns-in-OnLedger
unfolding response_to
returns-in-OnLedger c = rw (c.in-Ok.is, c.in-OnLedger.is) (record { reply = line-said c.reply_of-in-OnLedger.ensures c.perform.ensures.answered; next = ledger-left c.perform.ensures.left })

pub returns-in-Day : goal.returns-in-Day
unfolding response_to
returns-in-Day c = rw (c.in-Ok.is, c.in-Day.is, ← c.day.ensures) (record { reply = c.reply_of_day.ensures; next = refl })

pub returns-in-Date : goal.returns-in-Date
unfolding response_to
returns-in-Date c = rw (c.in-Ok.is, c.in-Date.is, ← c.date.ensures) (record { reply = c.reply_of_date.ensures; next = refl })

pub returns-in-Price : goal.returns-in-Price
unfolding response_to
returns-in-Price c = rw (c.in-Ok.is, c.in-Price.is) (record { reply = c.reply_of-in-Price.ensures ∙ c.set_price.ensures.said; next = book-left c.set_price.ensures.book_after })
