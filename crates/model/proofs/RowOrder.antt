-- Rows stay in order and apart: put in, put in place of another, taken out, rated anew. Assumes nothing.
use mathlib.Core.Path.{◌≡◌, sym}
use mathlib.Core.Logic.{◌≢◌}
use mathlib.Core.Bool.{Bool, true, false}
use mathlib.Core.List.{List, [], ◌∷◌, map}
use Prim.Native.Nat.{◌<◌, ◌≤◌}
use native.Mathlib.Omega.{arith}
use lib.Dec.{leb, ltb, eqb}
use Rattle.limits.specs.Limits.{last_day}
use Rattle.basics.specs.Lists.{All}
use Rattle.basics.proofs.Tests.{either, and_left, and_right, yes_le, lt_no, lt_yes, eq_yes, yes-eq, eq_no, or-no-left, or-no-right, or_yes, and_no, le-no}
use Rattle.basics.proofs.Lists.{all_map, all_both}
use Rattle.amounts.specs.declared.Bill.{Bill}
use Rattle.model.specs.declared.Row.{Row}
use Rattle.model.specs.Calls.{sharing}
use Rattle.model.specs.WellFormed.{before, Apart}
use Rattle.model.specs.Ledger.{insert, remove, replace, sorts_after}

pub record Span (x : Row) : Type 0 where
  pub days : x.bill.first ≤ x.bill.last
  pub short : x.bill.last ≤ last_day

pub before-trans : (x y z : Row) → Span y → before x y → before y z → before x z
unfolding before
before-trans x y z q h k = omega arith

-- of two rows the one before the other: their contracts ascend, and where the contract is the same the second begins after the first ends
pub contracts-ascend : (x y : Row) → Span y → before x y → x.bill.contract ≤ y.bill.contract
unfolding before
contracts-ascend x y q h = omega (arith, q.days, q.short)

pub begins-later : (x y : Row) → before x y → x.bill.contract ≡ y.bill.contract → x.bill.last < y.bill.first
unfolding before
begins-later x y h e = omega arith

-- the rows that share no day with a new one, by which of the two sorts after the other
module _ (r x : Row) (p : Span r) (q : Span x) (e : sharing r.bill.contract r.bill.first r.bill.last x.bill ≡ false) where
  pub left-of : sorts_after x.bill r.bill ≡ false → before x r
  unfolding before sorts_after sharing
  left-of f = either (eqb x.bill.contract r.bill.contract) same other
    where
      le : x.bill.contract ≤ r.bill.contract
      le = lt_no r.bill.contract x.bill.contract (or-no-left (ltb r.bill.contract x.bill.contract) _ f)

      same : eqb x.bill.contract r.bill.contract ≡ true → before x r
      same c =
          let k : x.bill.contract ≡ r.bill.contract = eq_yes x.bill.contract r.bill.contract c in
          let i : x.bill.first ≤ r.bill.first = lt_no r.bill.first x.bill.first (and_no (eqb r.bill.contract x.bill.contract) (ltb r.bill.first x.bill.first) (or-no-right (ltb r.bill.contract x.bill.contract) _ f) (yes-eq r.bill.contract x.bill.contract (sym k))) in
          let j : x.bill.last < r.bill.first = le-no r.bill.first x.bill.last (and_no (leb x.bill.first r.bill.last) (leb r.bill.first x.bill.last) (and_no (eqb x.bill.contract r.bill.contract) _ e c) (yes_le x.bill.first r.bill.last (omega arith))) in
          omega arith

      other : eqb x.bill.contract r.bill.contract ≡ false → before x r
      other c = let n : x.bill.contract ≢ r.bill.contract = eq_no x.bill.contract r.bill.contract c in omega (arith, le)

  pub right_of : sorts_after x.bill r.bill ≡ true → before r x
  unfolding before sorts_after sharing
  right_of f = either (ltb r.bill.contract x.bill.contract)
      (λ c. let n : r.bill.contract < x.bill.contract = lt_yes r.bill.contract x.bill.contract c in omega arith)
      (λ c.
      let g = or_yes (ltb r.bill.contract x.bill.contract) _ f c in
      let k : r.bill.contract ≡ x.bill.contract = eq_yes r.bill.contract x.bill.contract (and_left (eqb r.bill.contract x.bill.contract) _ g) in
      let i : r.bill.first < x.bill.first = lt_yes r.bill.first x.bill.first (and_right (eqb r.bill.contract x.bill.contract) _ g) in
      either (leb x.bill.first r.bill.last)
      (λ d. let j : x.bill.last < r.bill.first = le-no r.bill.first x.bill.last (and_no (leb x.bill.first r.bill.last) (leb r.bill.first x.bill.last) (and_no (eqb x.bill.contract r.bill.contract) _ e (yes-eq x.bill.contract r.bill.contract (sym k))) d) in omega arith)
      (λ d. let j : r.bill.last < x.bill.first = le-no x.bill.first r.bill.last d in omega arith))

-- ---- put in

pub all_insert : (P : Row → Type 0) (r : Row) (xs : List Row) → P r → All P xs → All P (insert r xs)
all_insert P r [] p a = (p, tt)
all_insert P r (x ∷ xs) p a = either (sorts_after x.bill r.bill) (λ e. rw e (p, a)) (λ e. rw e (a.0, all_insert P r xs p a.1))

-- of two rows the one that sorts after the other comes after it
pub record ApartFrom (r x : Row) : Type 0 where
  pub span : Span x
  pub left : sorts_after x.bill r.bill ≡ false → before x r
  pub right : sorts_after x.bill r.bill ≡ true → before r x

pub apart-insert : (r : Row) (xs : List Row) → All (ApartFrom r) xs → Apart xs → Apart (insert r xs)
apart-insert r [] f a = (tt, tt)
apart-insert r (x ∷ xs) f a = either (sorts_after x.bill r.bill)
    (λ e. rw e ((f.0.right e, all_map (before x) (before r) (λ y h. before-trans r x y f.0.span (f.0.right e) h) xs a.0), a))
    (λ e. rw e (all_insert (before x) r xs (f.0.left e) a.0, apart-insert r xs f.1 a.1))

-- ---- taken out

pub all_remove : (P : Row → Type 0) (p : Bill → Bool) (xs : List Row) → All P xs → All P (remove p xs)
all_remove P p [] a = tt
all_remove P p (x ∷ xs) a = either (p x.bill) (λ e. rw e a.1) (λ e. rw e (a.0, all_remove P p xs a.1))

pub apart-remove : (p : Bill → Bool) (xs : List Row) → Apart xs → Apart (remove p xs)
apart-remove p [] a = tt
apart-remove p (x ∷ xs) a = either (p x.bill) (λ e. rw e a.1) (λ e. rw e (all_remove (before x) p xs a.0, apart-remove p xs a.1))

-- ---- put in place of another that starts on the same day

-- what comes before a row, or after it, comes so before and after the one in its place
all-replace-named : (P : Row → Type 0) (p : Bill → Bool) (r : Row) → ((x : Row) → p x.bill ≡ true → P x → P r) → (xs : List Row) → All P xs → All P (replace p r xs)
all-replace-named P p r f [] a = tt
all-replace-named P p r f (x ∷ xs) a = either (p x.bill) (λ e. rw e (f x e a.0, a.1)) (λ e. rw e (a.0, all-replace-named P p r f xs a.1))

pub all-replace : (P : Row → Type 0) (p : Bill → Bool) (r : Row) (xs : List Row) → P r → All P xs → All P (replace p r xs)
all-replace P p r xs h a = all-replace-named P p r (λ x e q. h) xs a

pub apart-replace : (P : Row → Type 0) (p : Bill → Bool) (r : Row) → ((y x : Row) → p x.bill ≡ true → before y x → before y r)
    → ((x z : Row) → P x → P z → p x.bill ≡ true → before x z → before r z) → (xs : List Row) → All P xs → Apart xs → Apart (replace p r xs)
apart-replace P p r f g [] k a = tt
apart-replace P p r f g (x ∷ xs) k a = either (p x.bill)
    (λ e. rw e (all_map _ (before r) (λ z h. g x z k.0 h.0 e h.1) xs (all_both P (before x) xs k.1 a.0), a.1))
    (λ e. rw e (all-replace-named (before x) p r (λ y h q. f x y h q) xs a.0, apart-replace P p r f g xs k.1 a.1))

-- ---- rated anew: the bills stay

pub apart-map : (f : Row → Row) → ((x : Row) → (f x).bill ≡ x.bill) → (xs : List Row) → Apart xs → Apart (map f xs)
unfolding before
apart-map f e [] a = tt
apart-map f e (x ∷ xs) a = (go xs a.0, apart-map f e xs a.1)
  where
    go : (ys : List Row) → All (before x) ys → All (before (f x)) (map f ys)
    go [] b = tt
    go (y ∷ ys) b = (rw (e x, e y) b.0, go ys b.1)
