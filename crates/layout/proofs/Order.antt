-- Rows that keep their spans: the order over all pairs in the paper's words is the order by contract and day as one number. Assumes nothing.
use mathlib.Core.Path.{◌≡◌, refl}
use mathlib.Core.Bool.{true, false}
use mathlib.Core.List.{List, [], ◌∷◌, map}
use Prim.Native.Nat.{◌≤◌}
use native.Mathlib.Omega.{arith}
use lib.Dec.{ltb, eqb}
use Rattle.basics.specs.Tests.{every}
use Rattle.basics.specs.Lists.{All}
use Rattle.basics.proofs.Tests.{either, and_left, and_right, and_yes, eq_yes, yes-eq, lt_no, yes_lt, no_le, not_yes, no-not}
use Rattle.records.specs.Pairs.{every_pair}
use Rattle.model.specs.declared.Row.{Row}
use Rattle.model.specs.Calls.{sharing}
use Rattle.model.specs.Ledger.{sorts_after}
use Rattle.model.specs.WellFormed.{before, Apart}
use Rattle.model.proofs.RowOrder.{Span, right_of}
use Rattle.layout.specs.Layout.{comes_before}

-- ---- of two rows

pub comes-before : (x y : Row) → Span x → Span y → comes_before x y ≡ true → before x y
unfolding comes_before
comes-before x y p q e = right_of x y p q (not_yes _ (and_right (sorts_after y.bill x.bill) _ e)) (and_left (sorts_after y.bill x.bill) _ e)

module _ (x y : Row) (p : Span x) (q : Span y) (h : before x y) where
  sorted : sorts_after y.bill x.bill ≡ true
  unfolding before sorts_after
  sorted = either (ltb x.bill.contract y.bill.contract) (λ c. rw c) (λ c.
      let l : y.bill.contract ≤ x.bill.contract = lt_no x.bill.contract y.bill.contract c in
      rw (c, yes-eq x.bill.contract y.bill.contract (omega arith)) (yes_lt x.bill.first y.bill.first (omega arith)))

  unshared : sharing x.bill.contract x.bill.first x.bill.last y.bill ≡ false
  unfolding before sharing
  unshared = either (eqb y.bill.contract x.bill.contract)
      (λ c. let k : y.bill.contract ≡ x.bill.contract = eq_yes y.bill.contract x.bill.contract c in rw (c, no_le y.bill.first x.bill.last (omega arith)))
      (λ c. rw c)

  pub before-comes : comes_before x y ≡ true
  unfolding comes_before
  before-comes = and_yes _ _ sorted (no-not _ unshared)

-- ---- of a list of rows

all-before : (x : Row) → Span x → (xs : List Row) → All Span xs → every (map (comes_before x) xs) ≡ true → All (before x) xs
all-before x p [] a e = tt
all-before x p (y ∷ xs) a e = (comes-before x y p a.0 (and_left (comes_before x y) _ e), all-before x p xs a.1 (and_right (comes_before x y) _ e))

every-comes : (x : Row) → Span x → (xs : List Row) → All Span xs → All (before x) xs → every (map (comes_before x) xs) ≡ true
every-comes x p [] a b = refl
every-comes x p (y ∷ xs) a b = and_yes _ _ (before-comes x y p a.0 b.0) (every-comes x p xs a.1 b.1)

pub pairs-apart : (xs : List Row) → All Span xs → every_pair comes_before xs ≡ true → Apart xs
pairs-apart [] a e = tt
pairs-apart (x ∷ xs) a e =
    (all-before x a.0 xs a.1 (and_left (every (map (comes_before x) xs)) _ e), pairs-apart xs a.1 (and_right (every (map (comes_before x) xs)) _ e))

pub apart-pairs : (xs : List Row) → All Span xs → Apart xs → every_pair comes_before xs ≡ true
apart-pairs [] a b = refl
apart-pairs (x ∷ xs) a b = and_yes _ _ (every-comes x a.0 xs a.1 b.0) (apart-pairs xs a.1 b.1)
