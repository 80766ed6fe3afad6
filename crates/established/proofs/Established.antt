-- All that is established. Assumes nothing.
use Rattle.fields.proofs.FieldLaws.{field_laws, field_examples}
use Rattle.calendar.proofs.TableOfDates.{table_of_dates}
use Rattle.calendar.proofs.DayAndDate.{day_and_date_inverse}
use Rattle.rates.proofs.TwelveRates.{twelve_rates, baseline_not_given_to_qhs}
use Rattle.rates.proofs.RateExamples.{caps_attained, discounts_begin, classes_applied}
use Rattle.rates.proofs.TermsTaken.{terms_taken}
use Rattle.amounts.proofs.AmountLaws.{shares_rated, stretches_rated, without_change_inside, amounts_bounded}
use Rattle.amounts.proofs.AmountExamples.{amount_examples}
use Rattle.model.proofs.BookEntries.{entries_found}
use Rattle.model.proofs.BoundaryExamples.{at_the_boundaries}
use Rattle.model.proofs.RangeExamples.{ranges_kept}
use Rattle.model.proofs.Run.{landlord_example, certificate_inside_example, blend_and_extend_example}
use Rattle.model.proofs.PriceOfEveryDay.{price_of_every_day}
use Rattle.model.proofs.AcceptedCalls.{accepted_where_none_fits}
use Rattle.model.proofs.NumberFifteen.{number_fifteen}
use Rattle.model.proofs.NumberEight.{number_eight}
use Rattle.model.proofs.LargestBill.{largest_bill}
use Rattle.model.proofs.QuarterExample.{quarter_example}
use Rattle.model.proofs.LargerRowsExample.{larger_rows_example}
use Rattle.model.proofs.StoredEarlier.{stored_earlier}
use Rattle.model.proofs.Postings.{floor_leaves_rest}
use Rattle.layout.proofs.Theorems.{packed_size, fresh_ledger, round_trips, claims_kept, amounts_kept, demand_three, stored_ledgers_balance, stored_ledgers_answer, packed_histories_hold_their_facts, packed_answers_from_the_sheet, packed_same_as_postings, amend_alters_no_row, larger_rows_were_stored, number_two_first, number_two_meets_no_call}
use Rattle.layout.proofs.RowsInOrder.{rows_in_order}
use Rattle.layout.proofs.LayoutExample.{layout_example}
use Rattle.contract_calls.proofs.StartAnswers.{start_tests}
use Rattle.text.proofs.RoundTrip.{numbers_read_back}
use Rattle.text.proofs.LineExamples.{lines_read}
use Rattle.session.proofs.RunTranscript.{the_run_is_printed}
use Rattle.session.proofs.PrintedExamples.{lines_printed}
use Rattle.session.proofs.ProgramLimits.{program_limits}
use Rattle.session.proofs.SessionBalance.{every_session_balances}
use Rattle.established.specs.Established.{Established}

pub all-established : Established
all-established = record {
  number_two_first = number_two_first;
  at_the_boundaries = at_the_boundaries;
  accepted_where_none_fits = accepted_where_none_fits;
  number_fifteen = number_fifteen;
  number_eight = number_eight;
  largest_bill = largest_bill;
  start_tests = start_tests;
  table_of_dates = table_of_dates;
  day_and_date_inverse = day_and_date_inverse;
  twelve_rates = twelve_rates;
  baseline_not_given_to_qhs = baseline_not_given_to_qhs;
  caps_attained = caps_attained;
  discounts_begin = discounts_begin;
  classes_applied = classes_applied;
  terms_taken = terms_taken;
  shares_rated = shares_rated;
  stretches_rated = stretches_rated;
  without_change_inside = without_change_inside;
  amounts_bounded = amounts_bounded;
  amount_examples = amount_examples;
  landlord_example = landlord_example;
  certificate_inside_example = certificate_inside_example;
  blend_and_extend_example = blend_and_extend_example;
  entries_found = entries_found;
  price_of_every_day = price_of_every_day;
  field_laws = field_laws;
  field_examples = field_examples;
  packed_size = packed_size;
  layout_example = layout_example;
  fresh_ledger = fresh_ledger;
  round_trips = round_trips;
  ranges_kept = ranges_kept;
  quarter_example = quarter_example;
  larger_rows_example = larger_rows_example;
  stored_earlier = stored_earlier;
  claims_kept = claims_kept;
  rows_in_order = rows_in_order;
  amounts_kept = amounts_kept;
  packed_histories_hold_their_facts = packed_histories_hold_their_facts;
  demand_three = demand_three;
  stored_ledgers_balance = stored_ledgers_balance;
  stored_ledgers_answer = stored_ledgers_answer;
  packed_answers_from_the_sheet = packed_answers_from_the_sheet;
  number_two_meets_no_call = number_two_meets_no_call;
  amend_alters_no_row = amend_alters_no_row;
  larger_rows_were_stored = larger_rows_were_stored;
  packed_same_as_postings = packed_same_as_postings;
  floor_leaves_rest = floor_leaves_rest;
  numbers_read_back = numbers_read_back;
  lines_read = lines_read;
  lines_printed = lines_printed;
  program_limits = program_limits;
  the_run_is_printed = the_run_is_printed;
  every_session_balances = every_session_balances;
}
