-- One word each for the definitions by which an example's refusals, and its answers, are computed. Assumes nothing.
use Rattle.calendar.specs.Days.{dates, date_of, scheme_month}
use Rattle.rates.specs.TermsTaken.{terms_for}
use Rattle.rates.specs.Rates.{least_term, part, part_of, class_rate, qhs_class}
use Rattle.amounts.specs.Days.{in_first, between, sum_by_day}
use Rattle.amounts.specs.Amounts.{has_shares, rest_certificate, shares, share_at, bill_at, amount, rate}
use Rattle.model.specs.Codes.{opening, certify, amend}
use Rattle.model.specs.OpenContracts.{contract_at, is_open, put_contract}
use Rattle.model.specs.Book.{reference}
use Rattle.model.specs.Calls.{named, sharing, ends_after, requested_bill}
use Rattle.model.specs.Rules.{refusal}
use Rattle.model.specs.PresentRules.{bad_book, not_amendable, bad_kind, bad_days, bad_effective, bad_span, bad_amendment_days, bad_months, bad_amounts, no_price, tests}
use Rattle.model.specs.Ledger.{fresh, view, sorts_after, due, priced, rerated, accept, outcome, step, answer}

-- to unfold it is to unfold what the number that turns a call down is computed by
unfoldable pub refusal_computed : Unit {0}
unfolding refusal tests bad_book not_amendable bad_kind bad_days bad_effective bad_span bad_amendment_days bad_months bad_amounts no_price named sharing ends_after requested_bill terms_for reference contract_at is_open put_contract opening amend scheme_month date_of dates
refusal_computed = tt

-- to unfold it is to unfold what the answers to calls are computed by
unfoldable pub answers_computed : Unit {0}
unfolding refusal_computed fresh view sorts_after due priced rerated accept outcome step answer certify rate amount bill_at share_at shares rest_certificate has_shares sum_by_day between in_first qhs_class class_rate part_of part least_term
answers_computed = tt
