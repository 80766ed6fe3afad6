-- What is in force: the rules and the layout of a ledger today, and what its bytes hold by them. Assumes nothing.
use Rattle.std.specs.Prelude.{◌≡◌, true, List, ℕ, Result}
use Rattle.model.specs.declared.Row.{Row}
use Rattle.model.specs.OpenContracts.{Contracts}
use Rattle.model.specs.Rules.{Rules}
use Rattle.model.specs.PresentRules.{present_rules}
use Rattle.model.specs.Ledger.{Ledger}
use Rattle.model.specs.History.{Machine}
use Rattle.refusals.specs.declared.Refusal.{Refusal}
use Rattle.layout.specs.declared.Totals.{Totals}
use Rattle.layout.specs.Layout.{Layout, is_well_formed, contracts_in, ledger_of, bytes_of, machine_of}
use Rattle.layout.specs.Check as Check
use Rattle.layout.specs.PresentLayout.{present_layout}

abbrev pub rules : Rules
rules = present_rules

abbrev pub layout : Layout
layout = present_layout

-- whether bytes are a well-formed ledger, the facts that they hold, its contracts, and the bytes that hold given facts
abbrev pub Formed : List ℕ → Type 0
Formed b = is_well_formed rules layout b ≡ true

abbrev pub facts : List ℕ → Ledger
facts b = ledger_of rules layout b

abbrev pub contracts : List ℕ → Contracts
contracts b = contracts_in rules layout b

abbrev pub bytes : Ledger → List ℕ
bytes l = bytes_of rules layout l

-- what a check finds, the numbers of row slot i and its row, and a ledger to be searched
abbrev pub checked_of : List ℕ → Result Totals Refusal
checked_of b = Check.checked_of rules layout b

abbrev pub row_slot_at : List ℕ → ℕ → List ℕ
row_slot_at b i = Check.row_slot_at rules layout b i

abbrev pub row_at : List ℕ → ℕ → Row
row_at b i = Check.row_at rules layout b i

abbrev pub Searched : List ℕ → ℕ → Type 0
Searched b rows = Check.Searched rules layout b rows

-- the machine on the bytes
abbrev pub machine : Machine
machine = machine_of rules layout
