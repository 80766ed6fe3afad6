-- Rows in order and apart, searched by a test that, once a row passes it, all later ones pass: what is known of the first row that passes,
-- the rows that it finds, and the rows of a contract. Assumes nothing.
use mathlib.Core.Path.{◌≡◌, refl, sym, ap, ◌∙◌}
use mathlib.Core.Bool.{Bool, true, false, not, cond, ◌&&◌, true≢false, false≢true}
use mathlib.Core.Logic.{◌≢◌}
use mathlib.Core.List.{List, [], ◌∷◌, map}
use Prim.Native.Nat.{ℕ, zero, suc, ◌+◌, ◌≤◌, ◌<◌}
use native.Mathlib.Nat.{not-suc-le-zero, le_of_suc-le-suc, zero-add}
use native.Mathlib.Omega.{arith}
use lib.Dec.{ltb, leb, eqb}
use lib.ListN.{length, drop, get_or}
use lib.Seq.{drop-cons}
use borrow.Author.Tests.{le-ltb}
use Rattle.basics.specs.Lists.{All, total, count}
use Rattle.basics.proofs.Tests.{either, and_left, and_right, and-true, and-false, and_no, and-no-left, lt_yes, yes_lt, lt_no, le_yes, yes_le, no_le, le-no, eq_yes, yes-eq, no_eq, no-not}
use Rattle.basics.proofs.Lists.{all_map, all_both, total-all, total-zero}
use Rattle.basics.proofs.FirstMapped.{first_mapped, first_rest}
use Rattle.amounts.specs.declared.Bill.{Bill}
use Rattle.model.specs.declared.Row.{Row}
use Rattle.model.specs.Calls.{named, sharing, ends_after}
use Rattle.model.specs.Places.{place_of, first_passes, reaches}
use Rattle.model.specs.WellFormed.{before, Apart}
use Rattle.model.proofs.Places.{place-le, count_at}
use Rattle.model.proofs.RowOrder.{Span, contracts-ascend, begins-later}
use Rattle.model.proofs.ContractThenDay.{by_day, contract-or-day, carried}

-- ---- the first row that passes a test

module _ (p : Bill → Bool) where
  -- the rows before it don't pass
  below-place : (xs : List Row) (d : Row) (i : ℕ) → i < place_of p xs → p (get_or xs i d).bill ≡ false
  below-place [] d i h = absurd (not-suc-le-zero h)
  below-place (x ∷ xs) d zero h = either (p x.bill) (λ e. let n : 0 < 0 = rw e at h in absurd (not-suc-le-zero n)) (λ e. e)
  below-place (x ∷ xs) d (suc i) h = either (p x.bill)
      (λ e. let n : suc i < 0 = rw e at h in absurd (not-suc-le-zero n))
      (λ e. let n : suc i < suc (place_of p xs) = rw e at h in below-place xs d i (le_of_suc-le-suc n))

  -- once a row passes, all later ones do
  abbrev pub Rising : List Row → Type 0
  Rising [] = Unit {0}
  Rising (x ∷ xs) = (p x.bill ≡ true → All (λ y. p y.bill ≡ true) xs) × Rising xs

  all_drop : (xs : List Row) (n : ℕ) → All (λ y. p y.bill ≡ true) xs → All (λ y. p y.bill ≡ true) (drop n xs)
  all_drop xs zero a = a
  all_drop [] (suc n) a = tt
  all_drop (x ∷ xs) (suc n) a = all_drop xs n a.1

  -- the rows from it on pass
  from_place : (xs : List Row) → Rising xs → (i : ℕ) → place_of p xs ≤ i → All (λ y. p y.bill ≡ true) (drop i xs)
  from_place [] r zero h = tt
  from_place [] r (suc i) h = tt
  from_place (x ∷ xs) r zero h = either (p x.bill) (λ e. (e, r.0 e)) (λ e. let n : suc (place_of p xs) ≤ 0 = rw e at h in absurd (not-suc-le-zero n))
  from_place (x ∷ xs) r (suc i) h = either (p x.bill)
      (λ e. all_drop xs i (r.0 e))
      (λ e. let n : suc (place_of p xs) ≤ suc i = rw e at h in from_place xs r.1 i (le_of_suc-le-suc n))

  passes_at : (xs : List Row) → Rising xs → (d : Row) (i : ℕ) → place_of p xs ≤ i → i < length xs → p (get_or xs i d).bill ≡ true
  passes_at xs r d i h l =
      let a : All (λ y. p y.bill ≡ true) (get_or xs i d ∷ drop (suc i) xs) = rw (drop-cons xs i d l) at (from_place xs r i h) in a.0

  -- a search by halves: a row that passes is not before the place, one that doesn't is
  pub passed-row : (xs : List Row) (d : Row) (i : ℕ) → p (get_or xs i d).bill ≡ true → place_of p xs ≤ i
  passed-row xs d i e = either (ltb i (place_of p xs))
      (λ l. absurd (true≢false (sym e ∙ below-place xs d i (lt_yes i (place_of p xs) l))))
      (λ l. lt_no i (place_of p xs) l)

  pub failed_row : (xs : List Row) → Rising xs → (d : Row) (i : ℕ) → i < length xs → p (get_or xs i d).bill ≡ false → i < place_of p xs
  failed_row xs r d i l e = either (ltb i (place_of p xs))
      (λ h. lt_yes i (place_of p xs) h)
      (λ h. absurd (true≢false (sym (passes_at xs r d i (lt_no i (place_of p xs) h) l) ∙ e)))

-- ---- a bill that reaches a day of a contract

module _ (c day : ℕ) where
  reach-cases : (b : Bill) {X : Type 0} → reaches c day b ≡ true → (c < b.contract → X) → (c ≡ b.contract → day ≤ b.last → X) → X
  unfolding reaches
  reach-cases b r later same = contract-or-day c b.contract (leb day b.last) r later (λ e y. same e (le_yes day b.last y))

  reach-own : (b : Bill) → c ≡ b.contract → day ≤ b.last → reaches c day b ≡ true
  unfolding reaches
  reach-own b e h = by_day c b.contract (leb day b.last) e (yes_le day b.last h)

  -- by a row that reaches, all that come after it do
  reach-on : (x y : Row) → Span y → before x y → reaches c day x.bill ≡ true → reaches c day y.bill ≡ true
  unfolding reaches
  reach-on x y s h r = carried c x.bill.contract y.bill.contract _ _ (contracts-ascend x y s h)
      (λ e l. yes_le day y.bill.last (omega (arith, le_yes day x.bill.last l, begins-later x y h e, s.days))) r

  pub reaches-rising : (xs : List Row) → All Span xs → Apart xs → Rising (reaches c day) xs
  reaches-rising [] s a = tt
  reaches-rising (x ∷ xs) s a =
      (λ r. all_map _ _ (λ y h. reach-on x y h.0 h.1 r) xs (all_both Span (before x) xs s.1 a.0), reaches-rising xs s.1 a.1)

-- ---- a row that is the first to reach, or isn't there

-- the rows that pass q reach, and past a row that reaches and doesn't pass q no row passes it
record FirstReached (p q : Bill → Bool) : Type 0 where
  reached : (x : Row) → Span x → q x.bill ≡ true → p x.bill ≡ true
  past : (x y : Row) → Span x → Span y → before x y → p x.bill ≡ true → q x.bill ≡ false → q y.bill ≡ false

none-place : (q : Bill → Bool) (xs : List Row) → All (λ y. q y.bill ≡ false) xs → place_of q xs ≡ length xs
none-place q [] a = refl
none-place q (x ∷ xs) a = rw a.0 (ap suc (none-place q xs a.1))

module _ (p q : Bill → Bool) (f : FirstReached p q) where
  unreached : (x : Row) → Span x → p x.bill ≡ false → q x.bill ≡ false
  unreached x s e = either (q x.bill) (λ t. absurd (true≢false (sym (f.reached x s t) ∙ e))) (λ t. t)

  none-past : (x : Row) (xs : List Row) → Span x → All Span xs → All (before x) xs → p x.bill ≡ true → q x.bill ≡ false → All (λ y. q y.bill ≡ false) xs
  none-past x xs s ss b r n = all_map _ _ (λ y h. f.past x y s h.0 h.1 r n) xs (all_both Span (before x) xs ss b)

  -- its place
  found-place : (xs : List Row) → All Span xs → Apart xs → place_of q xs ≡ cond (first_passes q (drop (place_of p xs) xs)) (place_of p xs) (length xs)
  found-place [] s a = refl
  found-place (x ∷ xs) s a = either (p x.bill)
      (λ e. rw e (either (q x.bill) (λ t. rw t) (λ t. rw t (ap suc (none-place q xs (none-past x xs s.0 s.1 a.0 e t))))))
      (λ e. rw (e, unreached x s.0 e) (go (first_passes q (drop (place_of p xs) xs)) (found-place xs s.1 a.1)))
    where
      go : (b : Bool) → place_of q xs ≡ cond b (place_of p xs) (length xs) → suc (place_of q xs) ≡ cond b (suc (place_of p xs)) (suc (length xs))
      go true e = ap suc e
      go false e = ap suc e

  -- whether there is one
  any_found : (xs : List Row) → All Span xs → Apart xs → ltb 0 (count (λ x. q x.bill) xs) ≡ first_passes q (drop (place_of p xs) xs)
  any_found xs s a = count_at q xs ∙ ap (λ (n : ℕ). ltb n (length xs)) (found-place xs s a) ∙ go (first_passes q (drop (place_of p xs) xs)) refl
    where
      inside : (ys : List Row) (i : ℕ) → first_passes q (drop i ys) ≡ true → i < length ys
      inside [] zero e = absurd (false≢true e)
      inside [] (suc i) e = absurd (false≢true e)
      inside (y ∷ ys) zero e = omega arith
      inside (y ∷ ys) (suc i) e = omega (arith, inside ys i e)

      go : (b : Bool) → first_passes q (drop (place_of p xs) xs) ≡ b → ltb (cond b (place_of p xs) (length xs)) (length xs) ≡ b
      go true e = yes_lt (place_of p xs) (length xs) (inside xs (place_of p xs) e)
      go false e = le-ltb (length xs) (length xs) (omega arith)

-- ---- the row with a contract and first day, and a row that shares a day with a span

module _ (c first : ℕ) where
  abbrev reaching : Bill → Bool
  reaching = reaches c first

  named-reached : FirstReached reaching (named c first)
  unfolding named
  named-reached = record {
    reached = λ x s e.
        let own : x.bill.contract ≡ c = eq_yes _ _ (and_left (eqb x.bill.contract c) _ e) in
        let begins : x.bill.first ≡ first = eq_yes _ _ (and_right (eqb x.bill.contract c) _ e) in
        reach-own c first x.bill (sym own) (omega (arith, s.days));
    past = λ x y s t h r n. either (eqb y.bill.contract c)
        (λ e.
        let own : y.bill.contract ≡ c = eq_yes _ _ e in
        reach-cases c first x.bill r
        (λ l. let z : ⊥ = omega (arith, contracts-ascend x y t h) in absurd z)
        (λ o l. rw (e, no_eq y.bill.first first (λ f. let z : ⊥ = omega (arith, begins-later x y h (sym o ∙ sym own)) in z))))
        (λ e. rw e);
  }

  module _ (last : ℕ) where
    sharing-reached : FirstReached reaching (sharing c first last)
    unfolding sharing
    sharing-reached = record {
      reached = λ x s e.
          let own : x.bill.contract ≡ c = eq_yes _ _ (and_left (eqb x.bill.contract c) _ e) in
          let ends : first ≤ x.bill.last = le_yes _ _ (and_right (leb x.bill.first last) _ (and_right (eqb x.bill.contract c) _ e)) in
          reach-own c first x.bill (sym own) ends;
      past = λ x y s t h r n. either (eqb y.bill.contract c)
          (λ e.
          let own : y.bill.contract ≡ c = eq_yes _ _ e in
          reach-cases c first x.bill r
          (λ l. let z : ⊥ = omega (arith, contracts-ascend x y t h) in absurd z)
          (λ o l.
          let begins : last < x.bill.first = le-no x.bill.first last (and-no-left (leb x.bill.first last) (leb first x.bill.last) (and_no (eqb x.bill.contract c) _ n (yes-eq _ _ (sym o))) (yes_le _ _ l)) in
          rw (e, no_le y.bill.first last (omega (arith, s.days, begins, begins-later x y h (sym o ∙ sym own))))))
          (λ e. rw e);
    }

  -- the row with that contract and first day is the first that reaches it, or isn't there
  pub named-place : (xs : List Row) → All Span xs → Apart xs → place_of (named c first) xs ≡ cond (first_passes (named c first) (drop (place_of reaching xs) xs)) (place_of reaching xs) (length xs)
  named-place = found-place reaching (named c first) named-reached

  -- where it is there, it is the first that reaches
  pub named-found : (xs : List Row) → All Span xs → Apart xs → place_of (named c first) xs < length xs
      → (place_of (named c first) xs ≡ place_of reaching xs) × (first_passes (named c first) (drop (place_of reaching xs) xs) ≡ true)
  named-found xs s a h = go (first_passes (named c first) (drop (place_of reaching xs) xs)) (named-place xs s a)
    where
      go : (b : Bool) → place_of (named c first) xs ≡ cond b (place_of reaching xs) (length xs) → (place_of (named c first) xs ≡ place_of reaching xs) × (b ≡ true)
      go true e = (e, refl)
      go false e = let z : ⊥ = omega arith in absurd z

  module _ (last : ℕ) where
    -- a row of the contract shares a day with the span just where the first that reaches its first day does
    pub shares_at : (xs : List Row) → All Span xs → Apart xs → ltb 0 (count (λ x. sharing c first last x.bill) xs) ≡ first_passes (sharing c first last) (drop (place_of reaching xs) xs)
    shares_at = any_found reaching (sharing c first last) (sharing-reached last)

    -- a row that shares a day and isn't the one named
    abbrev shares_other : Row → Bool
    shares_other x = sharing c first last x.bill && not (named c first x.bill)

    all-reach : (xs : List Row) → All (λ y. reaching y.bill ≡ true) xs → place_of reaching xs ≡ 0
    all-reach [] r = refl
    all-reach (x ∷ xs) r = rw r.0

    weighs-alike : (y : Row) → named c first y.bill ≡ false → ◌≡◌ {A = ℕ} (cond (shares_other y) 1 0) (cond (sharing c first last y.bill) 1 0)
    weighs-alike y e = rw (and-true (sharing c first last y.bill) _ (no-not _ e))

    -- of the rows after the one named, one shares a day just where their first does
    next-shares : (x : Row) (xs : List Row) → Span x → All Span xs → All (before x) xs → Apart xs → named c first x.bill ≡ true
        → ltb 0 (count shares_other xs) ≡ first_passes (sharing c first last) xs
    unfolding named
    next-shares x xs s ss b a n =
        let own : x.bill.contract ≡ c = eq_yes _ _ (and_left (eqb x.bill.contract c) _ n) in
        let begins : x.bill.first ≡ first = eq_yes _ _ (and_right (eqb x.bill.contract c) _ n) in
        let reached : reaching x.bill ≡ true = reach-own c first x.bill (sym own) (omega (arith, s.days)) in
        let other : (y : Row) → before x y → named c first y.bill ≡ false = λ y h. either (eqb y.bill.contract c)
        (λ e. rw (e, no_eq y.bill.first first (λ f. let z : ⊥ = omega (arith, s.days, begins-later x y h (own ∙ sym (eq_yes _ _ e))) in z)))
        (λ e. rw e) in
        ap (ltb 0) (total-all _ _ xs (all_map _ _ (λ y h. weighs-alike y (other y h)) xs b))
        ∙ shares_at xs ss a
        ∙ ap (λ (i : ℕ). first_passes (sharing c first last) (drop i xs)) (all-reach xs (all_map _ _ (λ y h. reach-on c first x y h.0 h.1 reached) xs (all_both Span (before x) xs ss b)))

    -- where the first that reaches is the row named, another row shares a day just where the next one does
    pub others-share : (xs : List Row) → All Span xs → Apart xs → first_passes (named c first) (drop (place_of reaching xs) xs) ≡ true
        → ltb 0 (count shares_other xs) ≡ first_passes (sharing c first last) (drop (suc (place_of reaching xs)) xs)
    others-share [] s a e = absurd (false≢true e)
    others-share (x ∷ xs) s a e = either (reaching x.bill)
        (λ r.
        let n : named c first x.bill ≡ true = rw r at e in
        rw (r, and-false (sharing c first last x.bill) _ (ap not n)) (ap (ltb 0) (zero-add (count shares_other xs)) ∙ next-shares x xs s.0 s.1 a.0 a.1 n))
        (λ r.
        let f : first_passes (named c first) (drop (place_of reaching xs) xs) ≡ true = rw r at e in
        rw (r, unreached reaching (sharing c first last) (sharing-reached last) x s.0 r) (ap (ltb 0) (zero-add (count shares_other xs)) ∙ others-share xs s.1 a.1 f))

-- ---- a row of a contract that ends after a day

module _ (c day : ℕ) where
  ended-reached : FirstReached (reaches c (day + 1)) (ends_after c day)
  unfolding ends_after
  ended-reached = record {
    reached = λ x s e.
        let own : x.bill.contract ≡ c = eq_yes _ _ (and_left (eqb x.bill.contract c) _ e) in
        let ends : day < x.bill.last = lt_yes _ _ (and_right (eqb x.bill.contract c) _ e) in
        reach-own c (day + 1) x.bill (sym own) (omega arith);
    past = λ x y s t h r n. either (eqb y.bill.contract c)
        (λ e.
        let own : y.bill.contract ≡ c = eq_yes _ _ e in
        reach-cases c (day + 1) x.bill r
        (λ l. let z : ⊥ = omega (arith, contracts-ascend x y t h) in absurd z)
        (λ o l. let z : ⊥ = omega (arith, lt_no day x.bill.last (and_no (eqb x.bill.contract c) _ n (yes-eq _ _ (sym o)))) in absurd z))
        (λ e. rw e);
  }

  -- there is one just where the first that reaches the next day is one
  pub ends_at : (xs : List Row) → All Span xs → Apart xs → ltb 0 (count (λ x. ends_after c day x.bill) xs) ≡ first_passes (ends_after c day) (drop (place_of (reaches c (day + 1)) xs) xs)
  ends_at = any_found (reaches c (day + 1)) (ends_after c day) ended-reached

-- ---- the rows of a contract

module _ (p : Bill → Bool) where
  -- rows before the first that passes, where they weigh nothing or stay as they are
  weightless-before : (w : Row → ℕ) → ((x : Row) → p x.bill ≡ false → w x ≡ 0) → (xs : List Row) → total w (drop (place_of p xs) xs) ≡ total w xs
  weightless-before w z [] = refl
  weightless-before w z (x ∷ xs) = either (p x.bill) (λ e. rw e) (λ e. rw (e, z x e) (weightless-before w z xs ∙ sym (zero-add (total w xs))))

  kept-before : (f : Row → Row) → ((x : Row) → p x.bill ≡ false → f x ≡ x) → (xs : List Row) → first_mapped f (place_of p xs) xs ≡ xs
  kept-before f z [] = refl
  kept-before f z (x ∷ xs) = either (p x.bill) (λ e. rw e) (λ e. rw (e, z x e) (ap (λ (ys : List Row). x ∷ ys) (kept-before f z xs)))

-- a row that reaches the first day of a contract is of it or of a later one
module _ (c : ℕ) (b : Bill) where
  of-later : reaches c 0 b ≡ true → c ≤ b.contract
  of-later r = reach-cases c 0 b r (λ l. omega arith) (λ e l. omega arith)

  of-earlier : reaches c 0 b ≡ false → b.contract < c
  unfolding reaches
  of-earlier r = either (ltb b.contract c) (λ l. lt_yes _ _ l) (λ l.
      let m : c ≤ b.contract = lt_no _ _ l in
      absurd (true≢false (sym (carried c c b.contract true (leb 0 b.last) m (λ e y. yes_le 0 b.last (omega arith)) (by_day c c true refl refl)) ∙ r)))

module _ (c : ℕ) (xs : List Row) (s : All Span xs) (a : Apart xs) where
  abbrev begin : ℕ
  begin = place_of (reaches c 0) xs

  abbrev end : ℕ
  end = place_of (reaches (c + 1) 0) xs

  -- the rows from the first on and before the end are of the contract
  pub own-between : (d : Row) (i : ℕ) → begin ≤ i → i < end → (get_or xs i d).bill.contract ≡ c
  own-between d i h k =
      let l : i < length xs = omega (arith, place-le (reaches (c + 1) 0) xs) in
      let from = of-later c (get_or xs i d).bill (passes_at (reaches c 0) xs (reaches-rising c 0 xs s a) d i h l) in
      let to = of-earlier (c + 1) (get_or xs i d).bill (below-place (reaches (c + 1) 0) xs d i k) in
      omega arith

  -- the others weigh nothing
  module _ (w : Row → ℕ) (z : (x : Row) → x.bill.contract ≢ c → w x ≡ 0) where
    pub others-before : total w (drop begin xs) ≡ total w xs
    others-before = weightless-before (reaches c 0) w (λ x e. z x (λ f. let y : ⊥ = omega (arith, of-earlier c x.bill e) in y)) xs

    pub others-after : (i : ℕ) → end ≤ i → total w (drop i xs) ≡ 0
    others-after i h =
        total-all w (λ x. 0) (drop i xs) (all_map _ _ (λ x e. z x (λ f. let y : ⊥ = omega (arith, of-later (c + 1) x.bill e) in y)) (drop i xs) (from_place (reaches (c + 1) 0) xs (reaches-rising (c + 1) 0 xs s a) i h))
        ∙ total-zero (drop i xs)

  -- the others stay as they are
  module _ (f : Row → Row) (z : (x : Row) → x.bill.contract ≢ c → f x ≡ x) where
    pub same-before : first_mapped f begin xs ≡ xs
    same-before = kept-before (reaches c 0) f (λ x e. z x (λ g. let y : ⊥ = omega (arith, of-earlier c x.bill e) in y)) xs

    pub same_after : (i : ℕ) → end ≤ i → first_mapped f i xs ≡ map f xs
    same_after i h =
        first_rest f i xs (all_map _ _ (λ x e. z x (λ g. let y : ⊥ = omega (arith, of-later (c + 1) x.bill e) in y)) (drop i xs) (from_place (reaches (c + 1) 0) xs (reaches-rising (c + 1) 0 xs s a) i h))
