-- Document 01, "Well formed": "held rows come first, ascending by contract then first day, and no two rows of a contract share a day". Document
-- 02, paper 4: order and shared days are stated over all pairs of rows, and tested with the last row in hand. Assumes nothing.
use Rattle.std.specs.Prelude.{◌≡◌, true, List, [], ◌∷◌, ◌⊎◌, ◌↔◌, ℕ, ◌≤◌, ◌<◌}
use Rattle.limits.specs.Limits.{row_count}
use Rattle.basics.specs.Lists.{All}
use Rattle.records.specs.Places.{places}
use Rattle.records.specs.Pairs.{every_pair, every_neighbour}
use Rattle.model.specs.declared.Row.{Row}
use Rattle.model.specs.OpenContracts.{Contracts}
use Rattle.model.specs.Ledger.{comes_after}
use Rattle.model.specs.WellFormed.{RowOk, Apart}
use Rattle.layout.specs.Layout.{row_slots, comes_before}
use Rattle.layout.specs.Present.{rules, layout, Formed, facts}

-- of two rows, the earlier first: ascending by contract then first day, and where they are of one contract no day is a day of both
pub record Ordered (x y : Row) : Type 0 where
  pub ascending : (x.bill.contract < y.bill.contract) ⊎ ((x.bill.contract ≡ y.bill.contract) × (x.bill.first < y.bill.first))
  pub no_shared_day : x.bill.contract ≡ y.bill.contract → (day : ℕ) → x.bill.first ≤ day → day ≤ x.bill.last → y.bill.first ≤ day → day ≤ y.bill.last → ⊥

-- any two rows are
abbrev pub AllOrdered : List Row → Type 0
AllOrdered [] = Unit {0}
AllOrdered (x ∷ xs) = All (Ordered x) xs × AllOrdered xs

pub record RowsInOrder : Type 0 where
  -- of a well-formed ledger the held rows come first, and any two are in order
  pub held_first : (b : List ℕ) → Formed b → row_slots rules layout b ≡ places row_count (facts b).rows
  pub in_order : (b : List ℕ) → Formed b → AllOrdered (facts b).rows
  -- of rows that keep their ranges that is exactly what well-formed facts ask, what the test of all pairs tells, and what is told by comparing
  -- each row with the contract and last day of the one before it
  pub asked : (cs : Contracts) (xs : List Row) → All (RowOk rules cs) xs → Apart xs ↔ AllOrdered xs
  pub tested : (cs : Contracts) (xs : List Row) → All (RowOk rules cs) xs → (every_pair comes_before xs ≡ true) ↔ AllOrdered xs
  pub with_the_last_row : (cs : Contracts) (xs : List Row) → All (RowOk rules cs) xs
      → every_neighbour (λ x y. comes_after x.bill.contract x.bill.last y.bill) xs ≡ every_pair comes_before xs
