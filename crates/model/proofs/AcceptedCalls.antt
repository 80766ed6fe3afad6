-- A call that none of its own tests fits is accepted. Assumes nothing.
use mathlib.Core.Path.{refl}
use mathlib.Core.Bool.{true}
use Rattle.limits.specs.Limits.{row_count, most_claims}
use Rattle.basics.proofs.Tests.{yes_lt}
use borrow.Author.Tests.{lt-leb}
use Rattle.model.specs.Calls.{named, requested_bill}
use Rattle.model.specs.Rules.{refusal}
use Rattle.model.specs.PresentRules.{tests}
use Rattle.model.specs.AcceptedCalls.{AcceptedWhereNoneFits}

pub accepted_where_none_fits : AcceptedWhereNoneFits
unfolding refusal tests requested_bill
accepted_where_none_fits = record {
  opens = λ v c fuel kind fix entry book number new good days. rw (number, new, good, days);
  bills = λ v q book r free room.
      rw (r.span.right.prices, r.span.right.number, r.span.right.opened, r.span.right.days, r.span.months, r.span.inside, r.amounts, r.shares, free, r.priced, lt-leb row_count (v.held (λ x. true)) room);
  rebills = λ v q book r held free.
      rw (r.span.right.prices, r.span.right.number, r.span.right.opened, r.span.right.days, r.span.months, r.span.inside, r.amounts, r.shares, yes_lt 0 (v.held (named q.contract q.first)) held, free, r.priced);
  certificates = λ v c class effective book number opened good days. rw (number, opened, good, days);
  cancellations = λ v c first book number opened held. rw (number, opened, yes_lt 0 (v.held (named c first)) held);
  claims = λ v book few. rw (lt-leb most_claims v.claims few);
  reports = λ v c book number opened. rw (number, opened);
  totals = λ v book. refl;
  amendments = λ v c end fix entry book number opened good days ended. rw (number, opened, good, days, ended);
}
