-- `perform_checked` passes the call on by its case.
use Rattle.calls.proofs.Performed.{passed_on, passed-on-any}
use Rattle.calls.proofs.perform_checked.Goals as goal

pub returns-in-Open : goal.returns-in-Open
returns-in-Open c = search passed-on-any

pub returns-in-Bill : goal.returns-in-Bill
returns-in-Bill c = search passed_on

pub returns-in-Rebill : goal.returns-in-Rebill
returns-in-Rebill c = search passed_on

pub returns-in-Cert : goal.returns-in-Cert
returns-in-Cert c = search passed-on-any

pub returns-in-Cancel : goal.returns-in-Cancel
returns-in-Cancel c = search passed-on-any

pub returns-in-Claim : goal.returns-in-Claim
returns-in-Claim c = search passed-on-any

pub returns-in-Report : goal.returns-in-Report
returns-in-Report c = search passed-on-any

pub returns-in-Total : goal.returns-in-Total
returns-in-Total c = search passed-on-any

pub returns-in-Amend : goal.returns-in-Amend
returns-in-Amend c = search passed-on-any
