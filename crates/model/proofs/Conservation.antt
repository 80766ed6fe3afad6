-- Each accepted call changes due by the customer's amount that it answers, and the pence by what a claim answers. Assumes nothing.
use mathlib.Core.Path.{◌≡◌, sym, ap, ◌∙◌}
use mathlib.Core.Bool.{Bool, cond}
use mathlib.Core.List.{List}
use Prim.Native.Nat.{◌+◌, ◌≤◌}
use native.Mathlib.Omega.{arith}
use lib.IntN.{pos, ◌+ℤ◌, +ℤ_idr}
use Rattle.basics.specs.Lists.{total, count}
use Rattle.basics.proofs.Lists.{total-split, total-const}
use Rattle.basics.proofs.Integers.{change, reset}
use Rattle.amounts.specs.declared.Bill.{Bill}
use Rattle.model.specs.declared.Row.{Row}
use Rattle.model.specs.OpenContracts.{contract_at}
use Rattle.model.specs.declared.Call.{Call}
use Rattle.model.specs.Calls.{CallWithBook, named, requested_bill, customer_amount, claim_pence, ◌with◌}
use Rattle.model.specs.Rules.{Rules, refusal}
use Rattle.model.specs.Ledger.{Ledger, amount_of, remove, replace, priced, view as view_ledger, due as due_ledger, accept}
use Rattle.model.specs.Sheet.{Sheet}
use Rattle.model.proofs.RulesLaws.{RulesLaws}
use Rattle.model.proofs.RowSums.{total-insert, total-remove, total-replace, amount-at}
use Rattle.model.proofs.Relation.{Related, once-row}

exchange : (p : Bill → Bool) (r : Row) (xs : List Row) → count (λ x. p x.bill) xs ≡ 1 → total (λ x. x.amount) xs + r.amount ≡ total (λ x. x.amount) (replace p r xs) + amount_of p xs
exchange p r xs h = omega (arith, total-replace p (λ x. x.amount) r xs (omega arith), amount-at p xs (omega arith), total-split (λ x. p x.bill) (λ x. x.amount) xs, one)
  where
    one : total (λ x. cond (p x.bill) r.amount x.amount) xs ≡ r.amount + total (λ x. cond (p x.bill) 0 x.amount) xs
    one = total-const (λ x. p x.bill) r.amount (λ x. x.amount) xs ∙ rw h (omega arith)

withdraw : (p : Bill → Bool) (xs : List Row) → count (λ x. p x.bill) xs ≤ 1 → total (λ x. x.amount) xs + 0 ≡ total (λ x. x.amount) (remove p xs) + amount_of p xs
withdraw p xs h = omega (arith, total-remove p (λ x. x.amount) xs h, amount-at p xs h, total-split (λ x. p x.bill) (λ x. x.amount) xs)

module _ (R : Rules) (ok : RulesLaws R) where
  pub law-due : (l : Ledger) (s : Sheet) (c : CallWithBook) → Related R l s → refusal R (view_ledger l) c ≡ 0 → pos (due_ledger (accept R l c).next) ≡ pos (due_ledger l) +ℤ customer_amount (accept R l c).answers
  unfolding accept due_ledger view_ledger
  law-due l s (Call.Open c fuel kind fix entry with book) r e = sym (+ℤ_idr _)
  law-due l s (Call.Bill b with book) r e = ap pos (omega (arith, total-insert (λ x. x.amount) (priced R (contract_at l.contracts b.contract) (requested_bill l.contracts b book)) l.rows))
  law-due l s (Call.Rebill b with book) r e = change _ _ _ _ (exchange (named b.contract b.first) _ l.rows (omega (arith, once-row R l s r b.contract b.first, ok.rebill-found (view_ledger l) b book e)))
  law-due l s (Call.Cert c class effective with book) r e = reset _ _
  law-due l s (Call.Cancel c first with book) r e = change _ _ _ _ (withdraw (named c first) l.rows (once-row R l s r c first))
  law-due l s (Call.Claim with book) r e = sym (+ℤ_idr _)
  law-due l s (Call.Report c with book) r e = sym (+ℤ_idr _)
  law-due l s (Call.Total with book) r e = sym (+ℤ_idr _)
  law-due l s (Call.Amend c end fix entry with book) r e = sym (+ℤ_idr _)

  pub law-pence : (l : Ledger) (c : CallWithBook) → pos (accept R l c).next.pence ≡ pos l.pence +ℤ claim_pence (accept R l c).answers
  unfolding accept
  law-pence l (Call.Open c fuel kind fix entry with book) = sym (+ℤ_idr _)
  law-pence l (Call.Bill b with book) = sym (+ℤ_idr _)
  law-pence l (Call.Rebill b with book) = sym (+ℤ_idr _)
  law-pence l (Call.Cert c class effective with book) = sym (+ℤ_idr _)
  law-pence l (Call.Cancel c first with book) = sym (+ℤ_idr _)
  law-pence l (Call.Claim with book) = reset _ _
  law-pence l (Call.Report c with book) = sym (+ℤ_idr _)
  law-pence l (Call.Total with book) = sym (+ℤ_idr _)
  law-pence l (Call.Amend c end fix entry with book) = sym (+ℤ_idr _)
