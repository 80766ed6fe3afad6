-- Document 02, paper 3: "A ledger stored earlier whose amounts differ by this rule is malformed from now on", exactly. Assumes nothing.
use Rattle.std.specs.Prelude.{◌≡◌, List, [], ◌∷◌, ◌↔◌, ℕ}
use Rattle.basics.specs.Lists.{All}
use Rattle.rates.specs.declared.Terms.{Terms}
use Rattle.amounts.specs.declared.Bill.{Bill}
use Rattle.amounts.specs.Amounts.{amount, by_terms}
use Rattle.amounts.specs.EarlierAmount.{earlier_amount}
use Rattle.model.specs.declared.Row.{Row}
use Rattle.model.specs.declared.Call.{Call}
use Rattle.model.specs.Calls.{CallWithBook, ◌with◌}
use Rattle.model.specs.OpenContracts.{Contracts, contract_of}
use Rattle.model.specs.Rules.{Rules}
use Rattle.model.specs.PresentRules.{present_rules}
use Rattle.model.specs.Ledger.{Ledger}
use Rattle.model.specs.History.{left_with_rows}
use Rattle.model.specs.WellFormed.{WellFormed}

-- the rules in force with another amount; with the earlier one they ask of amounts what was asked before
abbrev pub rules_with : (amount : Terms → Bill → ℕ) → Rules
rules_with amount = record {
  contract_limit = present_rules.contract_limit;
  tests = present_rules.tests;
  rate = present_rules.rate;
  amount = by_terms amount;
  cap = present_rules.cap;
  contract_ok = present_rules.contract_ok;
  bill_ok = present_rules.bill_ok;
}

-- a row's amount is that by day
abbrev pub RatedByDay : Contracts → Row → Type 0
RatedByDay cs x = x.amount ≡ by_terms amount (contract_of cs x.bill) x.bill

-- ---- an example: 1,000 kWh in April 2023, of a contract with an ETII certificate from 11 April on

abbrev pub certified_inside : List CallWithBook
certified_inside = (Call.Open 5 0 2 0 0 with []) ∷ (Call.Cert 5 1 496 with []) ∷ []

-- the ledger with that row, stored with an amount
unfoldable pub stored_with : (amount : ℕ) → Ledger
stored_with amount =
    left_with_rows present_rules 0 certified_inside
    (record { bill = record { contract = 5; first = 486; last = 515; kwh = 1000; etii = 0; qhs = 0; reference = 31980; supply = 67030 }; amount = amount } ∷ [])

pub record StoredEarlier : Type 0 where
  -- a ledger that was well formed is so now just where each row's amount is that by day
  pub exactly : (l : Ledger) → WellFormed (rules_with earlier_amount) l → WellFormed present_rules l ↔ All (RatedByDay l.contracts) l.rows
  -- 1,000 × 17,800 ticks were well formed and aren't now; 333 × 17,800 + 667 × 67,640 are
  pub was : WellFormed (rules_with earlier_amount) (stored_with 17800000)
  pub is_not : WellFormed present_rules (stored_with 17800000) → ⊥
  pub is_now : WellFormed present_rules (stored_with 51043280)
