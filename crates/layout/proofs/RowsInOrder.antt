-- The order of rows over all pairs, in the paper's words, and that it is tested with the last row in hand. Assumes nothing.
use mathlib.Core.Path.{◌≡◌, refl}
use mathlib.Core.Bool.{Bool, true}
use mathlib.Core.List.{List, [], ◌∷◌}
use mathlib.Core.Logic.{inl, inr, ⊎_elim}
use Prim.Native.Nat.{◌≤◌, ◌<◌}
use native.Mathlib.Omega.{arith}
use lib.Dec.{ltb}
use Rattle.basics.specs.Lists.{All}
use Rattle.basics.proofs.Tests.{either, and_left, and_right, and_yes, lt_no, lt_yes}
use Rattle.basics.proofs.Lists.{all_map, all_both}
use Rattle.records.specs.Pairs.{every_pair, linked, every_neighbour}
use Rattle.records.proofs.Scan.{bool_same}
use Rattle.model.specs.declared.Row.{Row}
use Rattle.model.specs.Ledger.{comes_after}
use Rattle.model.specs.WellFormed.{before, Apart}
use Rattle.model.proofs.RowOrder.{Span, before-trans, contracts-ascend, begins-later}
use Rattle.model.proofs.RowBounds.{row-spans}
use Rattle.layout.specs.Layout.{comes_before}
use Rattle.layout.specs.Present.{facts}
use Rattle.layout.specs.RowsInOrder.{Ordered, AllOrdered, RowsInOrder}
use Rattle.layout.proofs.Order.{pairs-apart, apart-pairs}
use Rattle.layout.proofs.RowChecks.{after-row, row-after}
use Rattle.layout.proofs.HeldRows.{rows-first}
use Rattle.layout.proofs.Present.{present, facts-kept}

-- ---- in the paper's words

before-ordered : (x y : Row) → Span x → Span y → before x y → Ordered x y
before-ordered x y p q h = record {
  ascending = either (ltb x.bill.contract y.bill.contract)
      (λ l. inl (lt_yes _ _ l))
      (λ l. let n : y.bill.contract ≤ x.bill.contract = lt_no _ _ l in
      let same : x.bill.contract ≡ y.bill.contract = omega (arith, contracts-ascend x y q h) in
      inr (same, omega (arith, p.days, begins-later x y h same)));
  no_shared_day = λ e day a b c d. let z : ⊥ = omega (arith, begins-later x y h e) in z;
}

ordered-before : (x y : Row) → Span x → Span y → Ordered x y → before x y
unfolding before
ordered-before x y p q o = ⊎_elim
    (λ l. omega (arith, p.short))
    (λ e. either (ltb x.bill.last y.bill.first)
    (λ l. let n : x.bill.last < y.bill.first = lt_yes _ _ l in omega (arith, e.0))
    (λ l. let n : y.bill.first ≤ x.bill.last = lt_no _ _ l in absurd (o.no_shared_day e.0 y.bill.first (omega (arith, e.1)) n (omega arith) q.days)))
    o.ascending

apart-ordered : (xs : List Row) → All Span xs → Apart xs → AllOrdered xs
apart-ordered [] a b = tt
apart-ordered (x ∷ xs) a b =
    (all_map _ _ (λ y h. before-ordered x y a.0 h.0 h.1) xs (all_both Span (before x) xs a.1 b.0), apart-ordered xs a.1 b.1)

ordered-apart : (xs : List Row) → All Span xs → AllOrdered xs → Apart xs
ordered-apart [] a b = tt
ordered-apart (x ∷ xs) a b =
    (all_map _ _ (λ y h. ordered-before x y a.0 h.0 h.1) xs (all_both Span (Ordered x) xs a.1 b.0), ordered-apart xs a.1 b.1)

-- ---- with the contract and last day of the row before

abbrev comes_after_last : Row → Row → Bool
comes_after_last x y = comes_after x.bill.contract x.bill.last y.bill

linked-apart : (x : Row) (xs : List Row) → Span x → All Span xs → linked comes_after_last x xs ≡ true → All (before x) xs × Apart xs
linked-apart x [] p a e = (tt, tt)
linked-apart x (y ∷ ys) p a e =
    let first : before x y = after-row x y p a.0 (and_left (comes_after_last x y) _ e) in
    let rest = linked-apart y ys a.0 a.1 (and_right (comes_after_last x y) _ e) in
    ((first, all_map (before y) (before x) (λ z h. before-trans x y z a.0 first h) ys rest.0), (rest.0, rest.1))

apart-linked : (x : Row) (xs : List Row) → Span x → All Span xs → All (before x) xs → Apart xs → linked comes_after_last x xs ≡ true
apart-linked x [] p a b c = refl
apart-linked x (y ∷ ys) p a b c = and_yes _ _ (row-after x y p a.0 b.0) (apart-linked y ys a.0 a.1 c.0 c.1)

neighbours-pairs : (xs : List Row) → All Span xs → every_neighbour comes_after_last xs ≡ every_pair comes_before xs
neighbours-pairs [] a = refl
neighbours-pairs (x ∷ xs) a = bool_same _ _
    (λ e. let l = linked-apart x xs a.0 a.1 e in apart-pairs (x ∷ xs) a (l.0, l.1))
    (λ e. let l = pairs-apart (x ∷ xs) a e in apart-linked x xs a.0 a.1 l.0 l.1)

pub rows_in_order : RowsInOrder
rows_in_order = record {
  held_first = λ b f. rows-first present b f;
  in_order = λ b f. apart-ordered (facts b).rows (row-spans present.rules (facts b).contracts (facts b).rows (facts-kept b f).rows) (facts-kept b f).apart;
  asked = λ cs xs o. (apart-ordered xs (row-spans present.rules cs xs o), ordered-apart xs (row-spans present.rules cs xs o));
  tested = λ cs xs o. (
    λ e. apart-ordered xs (row-spans present.rules cs xs o) (pairs-apart xs (row-spans present.rules cs xs o) e),
    λ p. apart-pairs xs (row-spans present.rules cs xs o) (ordered-apart xs (row-spans present.rules cs xs o) p),
  );
  with_the_last_row = λ cs xs o. neighbours-pairs xs (row-spans present.rules cs xs o);
}
