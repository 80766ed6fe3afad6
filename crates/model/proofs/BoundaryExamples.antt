-- The numbers at the limits, by computation. Assumes nothing.
use mathlib.Core.Path.{refl}
use Rattle.model.specs.Sheet.{view}
use Rattle.model.specs.Run.{zero_book}
use Rattle.model.specs.BookEntries.{priced_at}
use Rattle.model.specs.BoundaryExamples.{standing, sheet_with, britain, northern_ireland, fixed_and_index, amended, sheet_of_kind, sheet_of_bills, sheet_of_claims, april, at_number3, at_number4, at_number5, at_number6, at_number16, at_number7, span_gives, months_give, at_number15, beside_end, at_number17, at_number18, kwh_gives, at_number8, at_number14, at_number9, at_number10, at_number11, at_number12, at_number13, in_checking_order, as_given, AtTheBoundaries}
use Rattle.model.proofs.Computed.{refusal_computed}

pub at_the_boundaries : AtTheBoundaries
unfolding refusal_computed at_number3 at_number4 at_number5 at_number6 at_number16 at_number7 span_gives months_give at_number15 beside_end at_number17 at_number18 kwh_gives at_number8 at_number14 at_number9 at_number10 at_number11 at_number12 at_number13 in_checking_order as_given standing sheet_with britain northern_ireland fixed_and_index amended sheet_of_kind sheet_of_bills sheet_of_claims april priced_at zero_book view
at_the_boundaries = (refl, (refl, (refl, (refl, (refl, (refl, (refl, (refl, (refl, (refl, (refl, (refl, (refl, (refl, (refl, (refl, (refl, tt)))))))))))))))))
