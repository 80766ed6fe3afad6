-- The stored quarters are well formed and balance, and calls on them answer as written, by computation. Assumes nothing.
use mathlib.Core.Path.{refl}
use native.Mathlib.Omega.{arith}
use Rattle.model.specs.Rules.{part_of_due}
use Rattle.model.specs.PresentRules.{bill_ok, present_rules}
use Rattle.model.specs.History.{state_after}
use Rattle.model.specs.WellFormed.{before, WellFormed}
use Rattle.model.specs.QuarterExample.{openings, stored_quarters, quarter_book, quarter_calls, quarter_answers, QuarterExample}
use Rattle.model.proofs.StoredExample.{formed-with, of-bill, balanced-with}
use Rattle.model.proofs.Computed.{answers_computed}

-- the two contracts are opened in a fresh ledger, and then it has the rows
well_formed : WellFormed present_rules stored_quarters
unfolding answers_computed stored_quarters state_after bill_ok part_of_due before
well_formed =
    formed-with 1 (omega arith) openings _ (omega arith)
    (record { number = omega arith; is_opened = refl; ranges = refl; part = refl }, (record { number = omega arith; is_opened = refl; ranges = refl; part = refl }, tt))
    ((omega arith, tt), (tt, tt))

pub quarter_example : QuarterExample
unfolding answers_computed stored_quarters state_after quarter_book quarter_calls quarter_answers
quarter_example = record { well_formed = well_formed; balanced = balanced-with stored_quarters _ well_formed (of-bill _ _ _, (of-bill _ _ _, tt)) refl refl; answers = refl }
