-- What holds between the ledger and the sheet before and after every call. Assumes nothing.
use mathlib.Core.Path.{◌≡◌, ap}
use mathlib.Core.Bool.{true, cond}
use Prim.Native.Nat.{ℕ, ◌≤◌}
use Rattle.basics.specs.Lists.{All, total, count}
use Rattle.amounts.specs.declared.Bill.{Bill}
use Rattle.model.specs.declared.Row.{Row}
use Rattle.model.specs.OpenContracts.{Contracts, contract_at, contract_of, is_open}
use Rattle.model.specs.Calls.{CallWithBook, named}
use Rattle.model.specs.Rules.{Rules, refusal, standing_row}
use Rattle.model.specs.Ledger.{Ledger, view as view_ledger, due as due_ledger}
use Rattle.model.specs.Sheet.{Sheet, view as view_sheet, due as due_sheet}

pub record BillOk (R : Rules) (cs : Contracts) (b : Bill) : Type 0 where
  pub is_opened : is_open cs b.contract ≡ true
  pub ranges : R.bill_ok (contract_of cs b) b ≡ true

pub record Related (R : Rules) (l : Ledger) (s : Sheet) : Type 0 where
  pub territory : l.territory ≡ s.territory
  pub contracts : l.contracts ≡ s.contracts
  pub claims : l.claims ≡ s.claims
  -- the rows are the bills, each with its amount, in another order: whatever is summed over the ones is the sum over the others
  pub same : (w : Row → ℕ) → total w l.rows ≡ total (λ b. w (standing_row R s.contracts b)) s.bills
  pub good : (c : ℕ) → is_open s.contracts c ≡ true → R.contract_ok s.territory (contract_at s.contracts c) ≡ true
  pub sane : All (BillOk R s.contracts) s.bills
  pub once : (c first : ℕ) → count (named c first) s.bills ≤ 1

module _ (R : Rules) (l : Ledger) (s : Sheet) (r : Related R l s) where
  pub views : view_ledger l ≡ view_sheet s
  unfolding view_ledger view_sheet
  views = λ i. record { territory = r.territory i; contracts = r.contracts i; held = λ p. r.same (λ x. cond (p x.bill) 1 0) i; claims = r.claims i }

  pub agree : (c : CallWithBook) → refusal R (view_ledger l) c ≡ refusal R (view_sheet s) c
  agree c = ap (λ v. refusal R v c) views

  pub dues : due_ledger l ≡ due_sheet R s
  unfolding due_ledger due_sheet
  dues = r.same (λ x. x.amount)

  pub once-row : (c first : ℕ) → count (λ x. named c first x.bill) l.rows ≤ 1
  once-row c first = rw (r.same (λ x. cond (named c first x.bill) 1 0)) (r.once c first)
