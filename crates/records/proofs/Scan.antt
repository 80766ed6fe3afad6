-- One pass over the slots of an array, with what it holds of the record before in hand, tests what is said over all slots and all pairs of
-- records: for any kind of record, and whatever is held of it, that the next is compared with. Assumes nothing.
use Rattle.std.specs.Prelude.{Option, None, Some}
use mathlib.Core.Path.{◌≡◌, refl, sym, ap₂, ◌∙◌}
use mathlib.Core.Bool.{Bool, true, false, cond, ◌&&◌, false≢true, true≢false}
use mathlib.Core.List.{List, [], ◌∷◌, map}
use Prim.Native.Nat.{ℕ, suc, ◌+◌}
use native.Mathlib.Omega.{arith}
use lib.Dec.{eqb}
use lib.ListN.{length, drop, get_or}
use Rattle.basics.specs.Tests.{every}
use Rattle.basics.specs.Lists.{All, total}
use Rattle.basics.proofs.Tests.{either, and_left, and_right, and_yes, yes-eq}
use Rattle.basics.proofs.Lists.{all_map, all_both}
use Rattle.records.specs.Slots.{RecordLayout, all_zero, record_fields, slot_in, slot_ok}
use Rattle.records.specs.Places.{held, is_in_order}
use Rattle.records.specs.Pairs.{every_pair}
use Rattle.records.proofs.Slots.{drop-zero}

-- the record of a slot's numbers
abbrev pub record_of : {A : Type 0} → RecordLayout A → List ℕ → A
record_of k v = k.of (record_fields k v)

-- what is held of a record tells which may come next. Of records that pass: each may come first; the next may follow where the one before
-- comes before it; and where one may follow, so may any that it comes before
pub record Following {A S : Type 0} (ok : A → Bool) (before : A → A → Bool) (start : S) (hold : A → S) (follows : S → A → Bool) : Type 0 where
  pub first : (x : A) → ok x ≡ true → follows start x ≡ true
  pub next : (x y : A) → ok x ≡ true → ok y ≡ true → follows (hold x) y ≡ before x y
  pub onward : (s : S) (x y : A) → ok x ≡ true → ok y ≡ true → follows s x ≡ true → before x y ≡ true → follows s y ≡ true

pub bool_same : (a b : Bool) → (a ≡ true → b ≡ true) → (b ≡ true → a ≡ true) → a ≡ b
bool_same true b f g = sym (f refl)
bool_same false true f g = g refl
bool_same false false f g = refl

-- zeros alone are a free slot
zero-free : (v : List ℕ) → all_zero v ≡ true → eqb (get_or v 0 0) 0 ≡ true
zero-free [] e = refl
zero-free (x ∷ v) e = and_left (eqb x 0) _ e

-- ---- free and held slots

module _ {A : Type 0} (k : RecordLayout A) where
  free_in : (v : List ℕ) → eqb (get_or v 0 0) 0 ≡ true → slot_in k v ≡ None
  unfolding slot_in
  free_in v e = rw e

  held_in : (v : List ℕ) → eqb (get_or v 0 0) 0 ≡ false → slot_in k v ≡ Some (record_of k v)
  unfolding slot_in
  held_in v e = rw e

  abbrev records : List (List ℕ) → List (Option A)
  records vs = map (slot_in k) vs

  zeros-held : (vs : List (List ℕ)) → every (map all_zero vs) ≡ true → held (records vs) ≡ []
  zeros-held [] e = refl
  zeros-held (v ∷ vs) e = rw (free_in v (zero-free v (and_left (all_zero v) _ e))) (zeros-held vs (and_right (all_zero v) _ e))

  module _ (before : A → A → Bool) where
    zeros-after : (o : Option A) (vs : List (List ℕ)) → every (map all_zero vs) ≡ true → every (map (is_in_order before o) (records vs)) ≡ true
    unfolding is_in_order
    zeros-after o [] e = refl
    zeros-after o (v ∷ vs) e = rw (free_in v (zero-free v (and_left (all_zero v) _ e))) (zeros-after o vs (and_right (all_zero v) _ e))

    zeros-order : (vs : List (List ℕ)) → every (map all_zero vs) ≡ true → every_pair (is_in_order before) (records vs) ≡ true
    zeros-order [] e = refl
    zeros-order (v ∷ vs) e = and_yes _ _ (zeros-after (slot_in k v) vs (and_right (all_zero v) _ e)) (zeros-order vs (and_right (all_zero v) _ e))

module _ {A : Type 0} (k : RecordLayout A) (ok : A → Bool) where
  -- the test of a slot's numbers
  abbrev pub test : List ℕ → Bool
  test v = slot_ok k (λ w. ok (k.of w)) v

  free-test : (v : List ℕ) → eqb (get_or v 0 0) 0 ≡ true → test v ≡ all_zero v
  unfolding slot_ok
  free-test v e = rw e (go (all_zero v) (all_zero (drop (suc (length k.widths)) v)) (drop-zero (suc (length k.widths)) v))
    where
      go : (p q : Bool) → (p ≡ true → q ≡ true) → q && p ≡ p
      go true q f = rw (f refl)
      go false true f = refl
      go false false f = refl

  held-passes : (v : List ℕ) → eqb (get_or v 0 0) 0 ≡ false → test v ≡ true → ok (record_of k v) ≡ true
  unfolding slot_ok
  held-passes v e t = rw e at (and_right (all_zero (drop (suc (length k.widths)) v)) _ t)

  zeros-ok : (vs : List (List ℕ)) → every (map all_zero vs) ≡ true → every (map test vs) ≡ true
  zeros-ok [] e = refl
  zeros-ok (v ∷ vs) e =
      let z : all_zero v ≡ true = and_left (all_zero v) _ e in
      and_yes _ _ (free-test v (zero-free v z) ∙ z) (zeros-ok vs (and_right (all_zero v) _ e))

  -- no record after a free slot
  free-after : (before : A → A → Bool) (vs : List (List ℕ)) → every (map test vs) ≡ true → every (map (is_in_order before None) (records k vs)) ≡ true → every (map all_zero vs) ≡ true
  unfolding is_in_order
  free-after before [] t o = refl
  free-after before (v ∷ vs) t o = either (eqb (get_or v 0 0) 0)
      (λ e. and_yes _ _ (sym (free-test v e) ∙ and_left (test v) _ t) (free-after before vs (and_right (test v) _ t) (rw (free_in k v e) at o)))
      (λ e. absurd (false≢true (rw (held_in k v e) at o)))

  -- the records that the slots hold pass
  held_all : (vs : List (List ℕ)) → every (map test vs) ≡ true → All (λ x. ok x ≡ true) (held (records k vs))
  held_all [] t = tt
  held_all (v ∷ vs) t = either (eqb (get_or v 0 0) 0)
      (λ e. rw (free_in k v e) (held_all vs (and_right (test v) _ t)))
      (λ e. rw (held_in k v e) (held-passes v e (and_left (test v) _ t), held_all vs (and_right (test v) _ t)))

-- ---- the pass tests the slots and the order

module _ {A S : Type 0} (k : RecordLayout A) (ok : A → Bool) (hold : A → S) (follows : S → A → Bool) where
  -- the pass: a free slot is followed by zeros alone; a held one is as it must be, and its record may follow what is held
  abbrev pub scan_ok : S → List (List ℕ) → Bool
  scan_ok s [] = true
  scan_ok s (v ∷ vs) =
      cond (eqb (get_or v 0 0) 0) (every (map all_zero (v ∷ vs)))
      (test k ok v && (follows s (record_of k v) && scan_ok (hold (record_of k v)) vs))

  abbrev From : S → List (List ℕ) → Type 0
  From s vs = All (λ x. follows s x ≡ true) (held (records k vs))

  module _ (before : A → A → Bool) where
    record Scanned (s : S) (vs : List (List ℕ)) : Type 0 where
      slots-ok : every (map (test k ok) vs) ≡ true
      ordered : every_pair (is_in_order before) (records k vs) ≡ true
      from : From s vs

    module _ (start : S) (laws : Following ok before start hold follows) where
      -- the records after x
      after-record : (x : A) → ok x ≡ true → (vs : List (List ℕ)) → every (map (test k ok) vs) ≡ true → From (hold x) vs → every (map (is_in_order before (Some x)) (records k vs)) ≡ true
      unfolding is_in_order
      after-record x p [] t f = refl
      after-record x p (v ∷ vs) t f = either (eqb (get_or v 0 0) 0)
          (λ e. rw (free_in k v e) (after-record x p vs (and_right (test k ok v) _ t) (rw (free_in k v e) at f)))
          (λ e.
          let g = rw (held_in k v e) at f in
          let q = held-passes k ok v e (and_left (test k ok v) _ t) in
          rw (held_in k v e) (and_yes _ _ (sym (laws.next x (record_of k v) p q) ∙ g.0) (after-record x p vs (and_right (test k ok v) _ t) g.1)))

      record-after : (x : A) → ok x ≡ true → (vs : List (List ℕ)) → every (map (test k ok) vs) ≡ true → every (map (is_in_order before (Some x)) (records k vs)) ≡ true → From (hold x) vs
      unfolding is_in_order
      record-after x p [] t o = tt
      record-after x p (v ∷ vs) t o = either (eqb (get_or v 0 0) 0)
          (λ e. rw (free_in k v e) (record-after x p vs (and_right (test k ok v) _ t) (rw (free_in k v e) at o)))
          (λ e.
          let g = rw (held_in k v e) at o in
          let q = held-passes k ok v e (and_left (test k ok v) _ t) in
          rw (held_in k v e) (laws.next x (record_of k v) p q ∙ and_left (before x (record_of k v)) _ g, record-after x p vs (and_right (test k ok v) _ t) (and_right (before x (record_of k v)) _ g)))

      scan-sound : (s : S) (vs : List (List ℕ)) → scan_ok s vs ≡ true → Scanned s vs
      scan-sound s [] e = record { slots-ok = refl; ordered = refl; from = tt }
      scan-sound s (v ∷ vs) e = either (eqb (get_or v 0 0) 0)
          (λ f.
          let z : every (map all_zero (v ∷ vs)) ≡ true = rw f at e in
          record { slots-ok = zeros-ok k ok (v ∷ vs) z; ordered = zeros-order k before (v ∷ vs) z; from = rw (zeros-held k (v ∷ vs) z) tt })
          (λ f.
          let x : A = record_of k v in
          let g : test k ok v && (follows s x && scan_ok (hold x) vs) ≡ true = rw f at e in
          let t : test k ok v ≡ true = and_left (test k ok v) _ g in
          let h = and_right (test k ok v) _ g in
          let here : follows s x ≡ true = and_left (follows s x) _ h in
          let rest = scan-sound (hold x) vs (and_right (follows s x) _ h) in
          let p : ok x ≡ true = held-passes k ok v f t in
          record {
            slots-ok = and_yes _ _ t rest.slots-ok;
            ordered = rw (held_in k v f) (and_yes _ _ (after-record x p vs rest.slots-ok rest.from) rest.ordered);
            from = rw (held_in k v f) (here, all_map _ _ (λ y m. laws.onward s x y p m.0 here (sym (laws.next x y p m.0) ∙ m.1)) (held (records k vs)) (all_both _ _ (held (records k vs)) (held_all k ok vs rest.slots-ok) rest.from));
          })

      scan-complete : (s : S) (vs : List (List ℕ)) → Scanned s vs → scan_ok s vs ≡ true
      unfolding is_in_order
      scan-complete s [] c = refl
      scan-complete s (v ∷ vs) c = either (eqb (get_or v 0 0) 0)
          (λ f.
          let o = rw (free_in k v f) at c.ordered in
          rw f (and_yes _ _ (sym (free-test k ok v f) ∙ and_left (test k ok v) _ c.slots-ok)
          (free-after k ok before vs (and_right (test k ok v) _ c.slots-ok) (and_left (every (map (is_in_order before None) (records k vs))) _ o))))
          (λ f.
          let x : A = record_of k v in
          let p : test k ok v ≡ true = and_left (test k ok v) _ c.slots-ok in
          let o = rw (held_in k v f) at c.ordered in
          let g = rw (held_in k v f) at c.from in
          let t : every (map (test k ok) vs) ≡ true = and_right (test k ok v) _ c.slots-ok in
          let rest : Scanned (hold x) vs = record {
            slots-ok = t;
            ordered = and_right (every (map (is_in_order before (Some x)) (records k vs))) _ o;
            from = record-after x (held-passes k ok v f p) vs t (and_left (every (map (is_in_order before (Some x)) (records k vs))) _ o);
          } in
          rw f (and_yes _ _ p (and_yes _ _ g.0 (scan-complete (hold x) vs rest))))

      pub scan-exactly : (vs : List (List ℕ)) → scan_ok start vs ≡ every (map (test k ok) vs) && every_pair (is_in_order before) (map (slot_in k) vs)
      scan-exactly vs = bool_same _ _
          (λ e. let c = scan-sound start vs e in and_yes _ _ c.slots-ok c.ordered)
          (λ e.
          let t : every (map (test k ok) vs) ≡ true = and_left (every (map (test k ok) vs)) _ e in
          scan-complete start vs (record {
            slots-ok = t;
            ordered = and_right (every (map (test k ok) vs)) _ e;
            from = all_map _ _ (λ x p. laws.first x p) (held (records k vs)) (held_all k ok vs t);
          }))

  -- ---- the pass with its counts

  module _ (weight : A → ℕ) {C : Type 0} (bad : C) (good : ℕ → ℕ → C) where
    -- what is found of the slots vs after `n` records whose weights add up to `sum`
    unfoldable pub found : S → (n sum : ℕ) → List (List ℕ) → C
    found s n sum vs =
        cond (scan_ok s vs) (good (n + length (held (map (slot_in k) vs))) (sum + total weight (held (map (slot_in k) vs)))) bad

    pub found-end : (s : S) (n sum : ℕ) → found s n sum [] ≡ good n sum
    unfolding found
    found-end s n sum = ap₂ good (omega arith) (omega arith)

    module _ (s : S) (n sum : ℕ) (v : List ℕ) (vs : List (List ℕ)) where
      pub found-free : get_or v 0 0 ≡ 0 → every (map all_zero (v ∷ vs)) ≡ true → found s n sum (v ∷ vs) ≡ good n sum
      unfolding found
      found-free e z = rw (yes-eq (get_or v 0 0) 0 e, z, zeros-held k (v ∷ vs) z) (ap₂ good (omega arith) (omega arith))

      pub found-trailing : get_or v 0 0 ≡ 0 → every (map all_zero (v ∷ vs)) ≡ false → found s n sum (v ∷ vs) ≡ bad
      unfolding found
      found-trailing e z = rw (yes-eq (get_or v 0 0) 0 e, z)

      pub found-bad : eqb (get_or v 0 0) 0 ≡ false → test k ok v && follows s (record_of k v) ≡ false → found s n sum (v ∷ vs) ≡ bad
      unfolding found
      found-bad e z = rw e (go (test k ok v) (follows s (record_of k v)) z)
        where
          go : (a b : Bool) → a && b ≡ false → cond (a && (b && scan_ok (hold (record_of k v)) vs)) (good (n + length (held (records k (v ∷ vs)))) (sum + total weight (held (records k (v ∷ vs))))) bad ≡ bad
          go true true f = absurd (true≢false f)
          go true false f = refl
          go false b f = refl

      pub found-good : eqb (get_or v 0 0) 0 ≡ false → test k ok v && follows s (record_of k v) ≡ true
          → found s n sum (v ∷ vs) ≡ found (hold (record_of k v)) (n + 1) (sum + weight (record_of k v)) vs
      unfolding found
      found-good e z =
          rw (e, and_left (test k ok v) _ z, and_right (test k ok v) _ z, held_in k v e)
          (ap₂ (λ (m d : ℕ). cond (scan_ok (hold (record_of k v)) vs) (good m d) bad) (omega arith) (omega arith))
