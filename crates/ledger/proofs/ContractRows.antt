-- The rows of a contract, from the first that reaches it to the first that reaches the next: each is of the contract, and sums over all rows
-- in which the others weigh nothing are sums over these. Assumes nothing.
use mathlib.Core.Path.{◌≡◌, ap, ◌∙◌}
use mathlib.Core.Logic.{◌≢◌}
use mathlib.Core.Bool.{cond}
use mathlib.Core.List.{List}
use Prim.Native.Nat.{ℕ, ◌+◌, ◌≤◌, ◌<◌}
use native.Mathlib.Omega.{arith}
use lib.ListN.{drop}
use Rattle.basics.specs.Lists.{total}
use Rattle.basics.proofs.Tests.{no_eq}
use Rattle.model.specs.declared.Row.{Row}
use Rattle.model.specs.Ledger.{of_contract}
use Rattle.model.specs.Places.{place_of, reaches}
use Rattle.model.proofs.Places.{place-le}
use Rattle.model.proofs.SortedRows.{own-between, others-before, others-after}
use Rattle.layout.specs.Present.{facts, row_at, Searched}
use Rattle.ledger.proofs.EachRow.{row_read, SummedTo}
use Rattle.ledger.proofs.Search.{spans, apart}

-- w of a row of contract c, and 0 of any other row
abbrev pub for_contract : ℕ → (Row → ℕ) → Row → ℕ
for_contract c w x = cond (of_contract c x) (w x) 0

pub others-weightless : (c : ℕ) (w : Row → ℕ) (x : Row) → x.bill.contract ≢ c → for_contract c w x ≡ 0
others-weightless c w x n = rw (no_eq x.bill.contract c n)

module _ (b : List ℕ) (rows : ℕ) (s : Searched b rows) (c : ℕ) where
  module _ (end : ℕ) (ends : end ≡ place_of (reaches (c + 1) 0) (facts b).rows) (i : ℕ) where
    pub below_end : i < end → i < rows
    below_end h = omega (arith, s.count, place-le (reaches (c + 1) 0) (facts b).rows)

    pub own-contract : place_of (reaches c 0) (facts b).rows ≤ i → i < end → (x : Row) → x ≡ row_at b i → x.bill.contract ≡ c
    own-contract from h x read =
        ap (λ (y : Row). y.bill.contract) (row_read b rows i s (below_end h) x read) ∙ own-between c (facts b).rows (spans b rows s) (apart b rows s) x i from (omega arith)

  -- sums in which the rows of other contracts weigh nothing
  module _ (w : Row → ℕ) (z : (x : Row) → x.bill.contract ≢ c → w x ≡ 0) (i : ℕ) where
    pub summed-begins : i ≡ place_of (reaches c 0) (facts b).rows → SummedTo w (facts b).rows i 0
    summed-begins e =
        let all : total w (drop i (facts b).rows) ≡ total w (facts b).rows =
        ap (λ (n : ℕ). total w (drop n (facts b).rows)) e ∙ others-before c (facts b).rows (spans b rows s) (apart b rows s) w z in
        record { sum = omega arith }

    pub summed-ends : (end : ℕ) → end ≡ place_of (reaches (c + 1) 0) (facts b).rows → end ≤ i → {sum : ℕ} → SummedTo w (facts b).rows i sum → sum ≡ total w (facts b).rows
    summed-ends end ends h t = omega (arith, t.sum, others-after c (facts b).rows (spans b rows s) (apart b rows s) w z i (omega arith))
