-- P1 to P12 hold, by computation. Assumes nothing.
use mathlib.Core.Path.{refl}
use Rattle.rates.specs.Rates.{least_term, part, part_of, class_rate, qhs_class, class_of}
use Rattle.rates.specs.TwelveRates.{example, terms_in, bill_class, rated, examples, misread, TwelveRates, BaselineNotGivenToQhs}

pub twelve_rates : TwelveRates
unfolding examples example terms_in bill_class rated class_of qhs_class class_rate part_of part least_term
twelve_rates = refl

pub baseline_not_given_to_qhs : BaselineNotGivenToQhs
unfolding misread example terms_in bill_class rated class_of qhs_class class_rate part_of part least_term
baseline_not_given_to_qhs = refl
