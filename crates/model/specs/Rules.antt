-- The rules by which a ledger and its sheet are kept. Those in force are the value `present_rules`; the ledger, the sheet and the balance
-- are stated for any rules, so that a later paper is another value. Assumes nothing.
use Rattle.std.specs.Prelude.{Bool, List, ℕ, zero, suc}
use Rattle.rates.specs.declared.Contract.{Contract}
use Rattle.amounts.specs.declared.Bill.{Bill}
use Rattle.model.specs.declared.Row.{Row}
use Rattle.model.specs.OpenContracts.{Contracts, contract_of}
use Rattle.model.specs.Calls.{CallWithBook, View, Test, first_of}

pub record Rules : Type 0 where
  -- contract numbers are below this one
  pub contract_limit : ℕ
  -- the tests that can turn a call of a history down, in checking order
  pub tests : View → CallWithBook → List Test
  -- the rate that a bill answers, its part of due, and its cap, under its contract, in ticks
  pub rate : Contract → Bill → ℕ
  pub amount : Contract → Bill → ℕ
  pub cap : Contract → Bill → ℕ
  -- the ranges that an open contract and a held row keep
  pub contract_ok : (territory : ℕ) → Contract → Bool
  pub bill_ok : Contract → Bill → Bool

-- the number that turns a call down, 0 where it is accepted
unfoldable pub refusal : Rules → View → CallWithBook → ℕ
refusal R v c = first_of (R.tests v c)

-- "The call gives the first number below that fits .. and changes no byte": what a call brings about, by the number of its refusal,
-- 0 where it is accepted
abbrev pub unless_refused : {A : Type 0} → (refusal : ℕ) → (accepted refused : A) → A
unless_refused zero accepted refused = accepted
unless_refused (suc n) accepted refused = refused

-- a bill's part of due, by its contract as it then stands
unfoldable pub part_of_due : Rules → Contracts → Bill → ℕ
part_of_due R cs b = R.amount (contract_of cs b) b

-- the row of a standing bill: its amount is its part of due
abbrev pub standing_row : Rules → Contracts → Bill → Row
standing_row R cs b = record { bill = b; amount = part_of_due R cs b }
