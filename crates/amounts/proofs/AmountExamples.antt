-- The examples of bills with shares and with a change inside, by computation. Assumes nothing.
use mathlib.Core.Path.{refl}
use Rattle.rates.specs.Rates.{least_term, part, part_of, class_rate, class_cap, qhs_class}
use Rattle.amounts.specs.Days.{in_first, between, sum_by_day}
use Rattle.amounts.specs.Amounts.{has_shares, rest_certificate, shares, share_at, bill_at, amount, cap, rate}
use Rattle.amounts.specs.AmountExamples.{shares_examples, stretch_examples, AmountExamples}

pub amount_examples : AmountExamples
unfolding shares_examples stretch_examples rate amount cap bill_at share_at shares rest_certificate has_shares sum_by_day between in_first class_rate class_cap qhs_class part_of part least_term
amount_examples = record { of_shares = refl; of_stretches = refl }
