-- `accepted_report` adds up the rows of the contract, one after the other.
use Rattle.ledger.proofs.EachRow.{row_inside}
use Rattle.ledger.proofs.ContractRows.{below_end}
use Rattle.claim_calls.proofs.ReportSums.{reported-begins, reported-next, rows_fit, kwh-fit, due-fit, reported-all}
use Rattle.claim_calls.proofs.accepted_report.Goals as goal

pub loop-i-init : goal.loop-i-init
loop-i-init c = search (reported-begins, c.args.held.searched)

pub row_at-row-requires : goal.row_at-row-requires
row_at-row-requires c = search (row_inside, below_end, c.args.held.searched)

pub overflow_add-count : goal.overflow_add-count
overflow_add-count c = record { fits = search (rows_fit, c.args.held.searched) }

pub overflow_add-kwh : goal.overflow_add-kwh
overflow_add-kwh c = record { fits = search (kwh-fit, c.args.held.searched, c.from-kwh.ensures) }

pub overflow_add-due : goal.overflow_add-due
overflow_add-due c = record { fits = search (due-fit, c.args.held.searched) }

pub loop-i-preserved : goal.loop-i-preserved
loop-i-preserved c = search (reported-next, c.args.held.searched, c.from-kwh.ensures)

pub returns : goal.returns
returns c = search (reported-all, c.args.held.searched)
