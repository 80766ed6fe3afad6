-- The stored rows of more than 40,000,000 kWh are well formed and balance, and calls on them answer as written, by computation. Assumes nothing.
use mathlib.Core.Path.{refl}
use native.Mathlib.Omega.{arith}
use Rattle.model.specs.Rules.{part_of_due}
use Rattle.model.specs.PresentRules.{bill_ok, present_rules}
use Rattle.model.specs.History.{state_after}
use Rattle.model.specs.Run.{zero_book}
use Rattle.model.specs.WellFormed.{before, WellFormed}
use Rattle.model.specs.LargerRowsExample.{openings, stored_larger_rows, larger_rows_calls, larger_rows_answers, LargerRowsExample}
use Rattle.model.proofs.StoredExample.{formed-with, of-bill, balanced-with}
use Rattle.model.proofs.Computed.{answers_computed}

well_formed : WellFormed present_rules stored_larger_rows
unfolding answers_computed stored_larger_rows state_after bill_ok part_of_due before
well_formed =
    formed-with 0 (omega arith) openings _ (omega arith) (
      record { number = omega arith; is_opened = refl; ranges = refl; part = refl },
      (
        record { number = omega arith; is_opened = refl; ranges = refl; part = refl },
        (record { number = omega arith; is_opened = refl; ranges = refl; part = refl }, tt),
      ),
    )
    ((omega arith, (omega arith, tt)), ((omega arith, tt), (tt, tt)))

pub larger_rows_example : LargerRowsExample
unfolding answers_computed stored_larger_rows state_after zero_book larger_rows_calls larger_rows_answers
larger_rows_example = record { well_formed = well_formed; balanced = balanced-with stored_larger_rows _ well_formed (of-bill _ _ _, (of-bill _ _ _, (of-bill _ _ _, tt))) refl refl; answers = refl }
