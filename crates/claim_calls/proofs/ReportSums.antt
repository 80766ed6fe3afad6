-- The sums of a report, by one row of the contract after the other. Assumes nothing.
use Rattle.std.specs.Prelude.{Ok}
use mathlib.Core.Path.{◌≡◌}
use mathlib.Core.Bool.{Bool, cond}
use mathlib.Core.List.{List, []}
use Prim.Native.Nat.{ℕ, ◌+◌, ◌*◌, ◌^◌, ◌≤◌, ◌<◌}
use native.Mathlib.Omega.{arith}
use Rattle.limits.specs.Limits.{most_kwh_stored, row_count}
use Rattle.basics.specs.Lists.{total}
use Rattle.basics.proofs.Tests.{yes-eq}
use Rattle.model.specs.declared.Row.{Row}
use Rattle.model.specs.declared.Answer.TheVariants.{Reported}
use Rattle.model.specs.declared.Call.{Call}
use Rattle.model.specs.Calls.{◌with◌}
use Rattle.model.specs.Ledger.{Ledger, of_contract, accept}
use Rattle.model.specs.Places.{place_of, reaches}
use Rattle.model.specs.WellFormed.{WellFormed}
use Rattle.model.proofs.PresentRules.{bill-ranges}
use Rattle.model.proofs.RowBounds.{passing-most, count_low, amounts-low}
use Rattle.layout.specs.Present.{rules, facts, row_at, Searched}
use Rattle.layout.proofs.Present.{present, facts-kept}
use Rattle.ledger.proofs.EachRow.{row-there, row_read, SummedTo, summed-next, summed-most}
use Rattle.ledger.proofs.ContractRows.{for_contract, others-weightless, below_end, own-contract, summed-begins, summed-ends}

pub kwh-low : (l : Ledger) → WellFormed rules l → (p : Row → Bool) → total (λ x. cond (p x) x.bill.kwh 0) l.rows ≤ row_count * most_kwh_stored
kwh-low l f p = passing-most f p (λ x. x.bill.kwh) most_kwh_stored (λ x o. (bill-ranges _ x.bill o.ranges).rateable.kwh)

-- the contract's rows among those before place i: how many, their kWh and their due
pub record ReportedTo (b : List ℕ) (c i rows kwh due : ℕ) : Type 0 where
  pub rows-to : SummedTo (for_contract c (λ x. 1)) (facts b).rows i rows
  pub kwh-to : SummedTo (for_contract c (λ x. x.bill.kwh)) (facts b).rows i kwh
  pub due-to : SummedTo (for_contract c (λ x. x.amount)) (facts b).rows i due

module _ (b : List ℕ) (c n : ℕ) (s : Searched b n) where
  pub reported-begins : (i : ℕ) → i ≡ place_of (reaches c 0) (facts b).rows → ReportedTo b c i 0 0 0
  reported-begins i e = record {
    rows-to = summed-begins b n s c _ (others-weightless c (λ x. 1)) i e;
    kwh-to = summed-begins b n s c _ (others-weightless c (λ x. x.bill.kwh)) i e;
    due-to = summed-begins b n s c _ (others-weightless c (λ x. x.amount)) i e;
  }

  module _ (first end : ℕ) (begins : first ≡ place_of (reaches c 0) (facts b).rows) (ends : end ≡ place_of (reaches (c + 1) 0) (facts b).rows) (i rows kwh due : ℕ) (r : ReportedTo b c i rows kwh due) where
    -- one row more, which is x
    module _ (from : first ≤ i) (h : i < end) (x : Row) (e : x ≡ row_at b i) where
      inside : i < n
      inside = below_end b n s c end ends i h

      next : {w : Row → ℕ} {m : ℕ} → SummedTo w (facts b).rows i m → SummedTo w (facts b).rows (i + 1) (m + w x)
      next t = summed-next t x x (row-there b n i s inside) (row_read b n i s inside x e)

      pub reported-next : ReportedTo b c (i + 1) (rows + 1) (kwh + x.bill.kwh) (due + x.amount)
      reported-next =
          let all : ReportedTo b c (i + 1) (rows + for_contract c (λ y. 1) x) (kwh + for_contract c (λ y. y.bill.kwh) x) (due + for_contract c (λ y. y.amount) x) =
          record { rows-to = next r.rows-to; kwh-to = next r.kwh-to; due-to = next r.due-to } in
          simp (yes-eq x.bill.contract c (own-contract b n s c end ends i (omega arith) h x e)) at all

      -- the sums fit
      pub rows_fit : rows + 1 < 2 ^ 32
      rows_fit = omega (arith, summed-most reported-next.rows-to, count_low (facts-kept b s.formed) (of_contract c))

      pub kwh-fit : kwh + x.bill.kwh < 2 ^ 64
      kwh-fit = omega (arith, summed-most reported-next.kwh-to, kwh-low (facts b) (facts-kept b s.formed) (of_contract c))

      pub due-fit : due + x.amount < 2 ^ 64
      due-fit = omega (arith, summed-most reported-next.due-to, amounts-low (facts-kept b s.formed) present.rules (of_contract c))

    -- all rows of the contract
    pub reported-all : end ≤ i → Ok (Reported rows kwh due) ≡ (accept rules (facts b) (Call.Report c with [])).answers
    unfolding accept
    reported-all k =
        rw (
          summed-ends b n s c _ (others-weightless c (λ x. 1)) i end ends k r.rows-to,
          summed-ends b n s c _ (others-weightless c (λ x. x.bill.kwh)) i end ends k r.kwh-to,
          summed-ends b n s c _ (others-weightless c (λ x. x.amount)) i end ends k r.due-to,
        )
