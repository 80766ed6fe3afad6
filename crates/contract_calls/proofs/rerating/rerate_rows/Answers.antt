-- `rerate_rows` re-rates one row of the contract after the other.
use Rattle.contract_calls.proofs.RowsRerating.{none_passed, next-slot, row-passed, old-fits, new-fits, changed-fits, all-passed}
use Rattle.contract_calls.proofs.rerating.rerate_rows.Goals as goal

pub loop-i-init : goal.loop-i-init
loop-i-init c = none_passed _ _ _ _ c.requires _ c.first_reaching-first.ensures _ c.default-sums.ensures

pub rerate_row-row-requires : goal.rerate_row-row-requires
rerate_row-row-requires c = search next-slot

pub overflow_add-sums : goal.overflow_add-sums
overflow_add-sums c = record { fits = search old-fits }

pub overflow_add-sums-in-loop-i : goal.overflow_add-sums-in-loop-i
overflow_add-sums-in-loop-i c = record { fits = search new-fits }

pub overflow_add-sums-in-loop-i-2 : goal.overflow_add-sums-in-loop-i-2
overflow_add-sums-in-loop-i-2 c = record { fits = search changed-fits }

pub loop-i-preserved : goal.loop-i-preserved
loop-i-preserved c = search row-passed

pub returns : goal.returns
returns c = search all-passed
