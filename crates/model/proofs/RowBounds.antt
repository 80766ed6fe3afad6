-- What each row of a well-formed ledger keeps, and the most that a sum over its rows can be. Assumes nothing.
use mathlib.Core.Bool.{Bool, true, false, cond}
use mathlib.Core.List.{List}
use Prim.Native.Nat.{ℕ, ◌*◌, ◌<◌, ◌≤◌, zero-le}
use native.Mathlib.Nat.{mul-le-mul_right}
use native.Mathlib.Omega.{arith}
use lib.ListN.{length}
use Rattle.limits.specs.Limits.{row_count}
use Rattle.basics.specs.Lists.{total, count, All}
use Rattle.basics.proofs.Lists.{all_map, total-most}
use Rattle.amounts.proofs.AmountBounds.{highest_amount}
use Rattle.model.specs.declared.Row.{Row}
use Rattle.model.specs.OpenContracts.{Contracts}
use Rattle.model.specs.Rules.{Rules, part_of_due}
use Rattle.model.specs.Ledger.{Ledger, due}
use Rattle.model.specs.WellFormed.{RowOk, WellFormed}
use Rattle.model.proofs.RulesLaws.{RulesLaws}
use Rattle.model.proofs.RowOrder.{Span}

module _ {R : Rules} (ok : RulesLaws R) {cs : Contracts} {x : Row} (o : RowOk R cs x) where
  pub row-span : Span x
  row-span = let d = ok.days _ x.bill o.ranges in record { days = d.0; short = d.1 }

  pub row-begins : 0 < x.bill.first
  row-begins = ok.begins _ x.bill o.ranges

  pub amount-low : x.amount ≤ highest_amount
  unfolding part_of_due
  amount-low = omega (arith, o.part, ok.low _ x.bill o.ranges)

pub row-spans : {R : Rules} → RulesLaws R → (cs : Contracts) (xs : List Row) → All (RowOk R cs) xs → All Span xs
row-spans {R} ok cs xs a = all_map (RowOk R cs) Span (λ x o. row-span ok o) xs a

module _ {R : Rules} {l : Ledger} (f : WellFormed R l) where
  sum-most : (w : Row → ℕ) (n : ℕ) → ((x : Row) → RowOk R l.contracts x → w x ≤ n) → total w l.rows ≤ row_count * n
  sum-most w n low =
      let h : length l.rows * n ≤ row_count * n = mul-le-mul_right n f.count in
      omega (arith, total-most w n l.rows (all_map (RowOk R l.contracts) _ low l.rows f.rows))

  -- over the rows that pass a test
  pub passing-most : (p : Row → Bool) (w : Row → ℕ) (n : ℕ) → ((x : Row) → RowOk R l.contracts x → w x ≤ n) → total (λ x. cond (p x) (w x) 0) l.rows ≤ row_count * n
  passing-most p w n low = sum-most _ n (λ x o. either_way (p x) (w x) (low x o))
    where
      either_way : (b : Bool) (m : ℕ) → m ≤ n → cond b m 0 ≤ n
      either_way true m h = h
      either_way false m h = zero-le

  pub count_low : (p : Row → Bool) → count p l.rows ≤ row_count
  count_low p = passing-most p (λ x. 1) 1 (λ x o. omega arith)

  pub amounts-low : RulesLaws R → (p : Row → Bool) → total (λ x. cond (p x) x.amount 0) l.rows ≤ row_count * highest_amount
  amounts-low ok p = passing-most p (λ x. x.amount) highest_amount (λ x o. amount-low ok o)

  pub due-low : RulesLaws R → due l ≤ row_count * highest_amount
  unfolding due
  due-low ok = amounts-low ok (λ x. true)
