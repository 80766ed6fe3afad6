-- What is established of the product beside the contracts of its functions, in the order of the three demands. One value, in
-- proofs/Established.antt, gives all of it. Assumes nothing.
use Rattle.fields.specs.FieldLaws.{FieldLaws, FieldExamples}
use Rattle.calendar.specs.TableOfDates.{TableOfDates, DayAndDateInverse}
use Rattle.rates.specs.TwelveRates.{TwelveRates, BaselineNotGivenToQhs}
use Rattle.rates.specs.RateExamples.{CapsAttained, DiscountsBegin, ClassesApplied}
use Rattle.rates.specs.TermsTaken.{TermsTaken}
use Rattle.amounts.specs.AmountLaws.{SharesRated, StretchesRated, WithoutChangeInside, AmountsBounded}
use Rattle.amounts.specs.AmountExamples.{AmountExamples}
use Rattle.model.specs.BookEntries.{EntriesFound}
use Rattle.model.specs.BoundaryExamples.{AtTheBoundaries}
use Rattle.model.specs.RangeExamples.{RangesKept}
use Rattle.model.specs.LandlordExample.{LandlordExample}
use Rattle.model.specs.CertificateInsideExample.{CertificateInsideExample}
use Rattle.model.specs.BlendAndExtendExample.{BlendAndExtendExample}
use Rattle.model.specs.PriceOfEveryDay.{PriceOfEveryDay}
use Rattle.model.specs.AcceptedCalls.{AcceptedWhereNoneFits}
use Rattle.model.specs.NumberFifteen.{NumberFifteen}
use Rattle.model.specs.NumberEight.{NumberEight}
use Rattle.model.specs.LargestBill.{LargestBill}
use Rattle.model.specs.QuarterExample.{QuarterExample}
use Rattle.model.specs.LargerRowsExample.{LargerRowsExample}
use Rattle.model.specs.StoredEarlier.{StoredEarlier}
use Rattle.model.specs.Postings.{FloorLeavesRest}
use Rattle.layout.specs.RowsInOrder.{RowsInOrder}
use Rattle.layout.specs.Theorems.{PackedSize, FreshLedger, RoundTrips, ClaimsKept, AmountsKept, DemandThree, StoredLedgersBalance, StoredLedgersAnswer, PackedHistoriesHoldTheirFacts, PackedAnswersFromTheSheet, PackedSameAsPostings, AmendAltersNoRow, LargerRowsWereStored, NumberTwoFirst, NumberTwoMeetsNoCall}
use Rattle.layout.specs.LayoutExample.{LayoutExample}
use Rattle.contract_calls.specs.Start.{StartTests}
use Rattle.text.specs.Numbers.{NumbersReadBack}
use Rattle.text.specs.LineExamples.{LinesRead}
use Rattle.session.specs.RunTranscript.{TheRunIsPrinted}
use Rattle.session.specs.PrintedExamples.{LinesPrinted}
use Rattle.session.specs.ProgramLimits.{ProgramLimits}
use Rattle.session.specs.SessionBalance.{EverySessionBalances}

pub record Established : Type 0 where
  -- demand 1: the first refusal that fits
  pub number_two_first : NumberTwoFirst
  pub at_the_boundaries : AtTheBoundaries
  pub accepted_where_none_fits : AcceptedWhereNoneFits
  pub number_fifteen : NumberFifteen
  pub number_eight : NumberEight
  pub largest_bill : LargestBill
  pub start_tests : StartTests
  pub table_of_dates : TableOfDates
  pub day_and_date_inverse : DayAndDateInverse
  -- demand 2: the formula and the prices that it takes
  pub twelve_rates : TwelveRates
  pub baseline_not_given_to_qhs : BaselineNotGivenToQhs
  pub caps_attained : CapsAttained
  pub discounts_begin : DiscountsBegin
  pub classes_applied : ClassesApplied
  pub terms_taken : TermsTaken
  pub shares_rated : SharesRated
  pub stretches_rated : StretchesRated
  pub without_change_inside : WithoutChangeInside
  pub amounts_bounded : AmountsBounded
  pub amount_examples : AmountExamples
  pub landlord_example : LandlordExample
  pub certificate_inside_example : CertificateInsideExample
  pub blend_and_extend_example : BlendAndExtendExample
  pub entries_found : EntriesFound
  pub price_of_every_day : PriceOfEveryDay
  -- demand 2: the packed ledger, both ways
  pub field_laws : FieldLaws
  pub field_examples : FieldExamples
  pub packed_size : PackedSize
  pub layout_example : LayoutExample
  pub fresh_ledger : FreshLedger
  pub round_trips : RoundTrips
  pub ranges_kept : RangesKept
  pub quarter_example : QuarterExample
  pub larger_rows_example : LargerRowsExample
  pub stored_earlier : StoredEarlier
  pub claims_kept : ClaimsKept
  pub rows_in_order : RowsInOrder
  pub amounts_kept : AmountsKept
  pub packed_histories_hold_their_facts : PackedHistoriesHoldTheirFacts
  -- demand 3: every history balances, and the move from postings
  pub demand_three : DemandThree
  pub stored_ledgers_balance : StoredLedgersBalance
  pub stored_ledgers_answer : StoredLedgersAnswer
  pub packed_answers_from_the_sheet : PackedAnswersFromTheSheet
  pub number_two_meets_no_call : NumberTwoMeetsNoCall
  pub amend_alters_no_row : AmendAltersNoRow
  pub larger_rows_were_stored : LargerRowsWereStored
  pub packed_same_as_postings : PackedSameAsPostings
  pub floor_leaves_rest : FloorLeavesRest
  -- the program
  pub numbers_read_back : NumbersReadBack
  pub lines_read : LinesRead
  pub lines_printed : LinesPrinted
  pub program_limits : ProgramLimits
  pub the_run_is_printed : TheRunIsPrinted
  pub every_session_balances : EverySessionBalances
