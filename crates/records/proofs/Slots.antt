-- Slots and arrays of slots, written and read again, for any kind of record. Assumes nothing.
use Rattle.std.specs.Prelude.{Option, None, Some}
use mathlib.Core.Path.{◌≡◌, refl, sym, ap, ap₂, ◌∙◌, subst}
use mathlib.Core.Bool.{Bool, true, false, cond}
use mathlib.Core.List.{List, [], ◌∷◌, ◌++◌, map}
use Prim.Native.Nat.{ℕ, zero, suc, ◌+◌, ◌*◌, ◌^◌, ◌≤◌, ◌<◌}
use native.Mathlib.Omega.{arith}
use native.Mathlib.Nat.{not-suc-le-zero, le_of_suc-le-suc}
use lib.Dec.{eqb}
use lib.Pow.{pow_pos}
use lib.ListN.{length, take, drop, get_or, length-append, length-map, take-append-drop}
use lib.Seq.{length-take-le, take_at, drop_at, drop-drop}
use Rattle.std.proofs.lemmas.List.{map-append, get_or-map}
use Rattle.fields.specs.Field.{AreBytes}
use Rattle.fields.specs.Fields.{fields, Fit}
use Rattle.basics.specs.Tests.{every}
use Rattle.basics.specs.Lists.{All}
use Rattle.basics.proofs.Lists.{all_of_map}
use Rattle.basics.proofs.Tests.{either, and_left, and_right, and_yes, eq_yes, eq_no}
use Rattle.records.specs.Pack.{size, WholeBytes, pack, unpack, cut, join}
use Rattle.records.specs.Slots.{all_zero, zeros_for, RecordLayout, whole, record_fields, slot_out, slot_in, slot_ok, passes, slots, array_in, slot_bytes, array_out, RecordLaws}
use Rattle.records.proofs.Parts.{Parts, length_cut, parts_cut, are-cut, length-join, are-join, join-append, join-cut, cut-join}
use Rattle.records.proofs.Pack.{length-pack, are-pack, fit-unpack, unpack-pack, pack-unpack, unpack-within}

-- ---- lists of values

pub fit_length : (ws vs : List ℕ) → Fit ws vs → length vs ≡ length ws
fit_length [] [] f = refl
fit_length [] (v ∷ vs) f = absurd f
fit_length (w ∷ ws) [] f = absurd f
fit_length (w ∷ ws) (v ∷ vs) f = ap suc (fit_length ws vs f.1)

pub fit_append : (ws vs xs ys : List ℕ) → Fit ws vs → Fit xs ys → Fit (ws ++ xs) (vs ++ ys)
fit_append [] [] xs ys f g = g
fit_append [] (v ∷ vs) xs ys f g = absurd f
fit_append (w ∷ ws) [] xs ys f g = absurd f
fit_append (w ∷ ws) (v ∷ vs) xs ys f g = (f.0, fit_append ws vs xs ys f.1 g)

fit-drop : (ws xs v : List ℕ) → Fit (ws ++ xs) v → Fit xs (drop (length ws) v)
fit-drop [] xs v f = f
fit-drop (w ∷ ws) xs [] f = absurd f
fit-drop (w ∷ ws) xs (y ∷ v) f = fit-drop ws xs v f.1

pub fit-blank : (ws : List ℕ) → Fit ws (zeros_for ws)
fit-blank [] = tt
fit-blank (w ∷ ws) = (pow_pos w, fit-blank ws)

pub blank-zero : (ws : List ℕ) → all_zero (zeros_for ws) ≡ true
blank-zero [] = refl
blank-zero (w ∷ ws) = blank-zero ws

pub drop-zero : (n : ℕ) (v : List ℕ) → all_zero v ≡ true → all_zero (drop n v) ≡ true
drop-zero zero v e = e
drop-zero (suc n) [] e = refl
drop-zero (suc n) (x ∷ v) e = drop-zero n v (and_right (eqb x 0) _ e)

pub zero-blank : (ws v : List ℕ) → Fit ws v → all_zero v ≡ true → zeros_for ws ≡ v
zero-blank [] [] f e = refl
zero-blank [] (x ∷ v) f e = absurd f
zero-blank (w ∷ ws) [] f e = absurd f
zero-blank (w ∷ ws) (x ∷ v) f e =
    ap₂ (λ (y : ℕ) (l : List ℕ). y ∷ l) (sym (eq_yes x 0 (and_left (eqb x 0) _ e))) (zero-blank ws v f.1 (and_right (eqb x 0) _ e))

-- ---- one slot

-- a slot's numbers have the record's fields, as many as there are widths
length_fields : {A : Type 0} (k : RecordLayout A) (x : ℕ) (v : List ℕ) → Fit (whole k) (x ∷ v) → length (record_fields k (x ∷ v)) ≡ length k.widths
length_fields k x v f =
    length-take-le (length k.widths) v (omega (arith, fit_length (k.widths ++ k.zeros) v f.1, length-append k.widths k.zeros))

module _ {A : Type 0} (k : RecordLayout A) (test : List ℕ → Bool) (ok : RecordLaws k test) where
  -- the fields of a record that is there
  fields_out : (a : A) → test (k.values a) ≡ true → record_fields k (1 ∷ (k.values a ++ zeros_for k.zeros)) ≡ k.values a
  fields_out a e = take_at (k.values a) (zeros_for k.zeros) (length k.widths) (fit_length k.widths (k.values a) (ok.fits a e))

  -- written and read again
  pub slot-in-out : (o : Option A) → passes k test o ≡ true → slot_in k (slot_out k o) ≡ o
  unfolding slot_in slot_out
  slot-in-out None e = refl
  slot-in-out (Some a) e = ap (λ (v : List ℕ). Some (k.of v)) (fields_out a e) ∙ ap (λ (x : A). Some x) (ok.of_values a e)

  pub fit-slot_out : (o : Option A) → passes k test o ≡ true → Fit (whole k) (slot_out k o)
  unfolding slot_out
  fit-slot_out None e = fit-blank (whole k)
  fit-slot_out (Some a) e = (omega arith, fit_append k.widths (k.values a) k.zeros (zeros_for k.zeros) (ok.fits a e) (fit-blank k.zeros))

  -- read and written again
  pub slot-out-in : (v : List ℕ) → Fit (whole k) v → slot_ok k test v ≡ true → slot_out k (slot_in k v) ≡ v
  unfolding slot_in slot_out slot_ok
  slot-out-in [] f e = absurd f
  slot-out-in (x ∷ v) f e = either (eqb x 0) free taken
    where
      n : ℕ
      n = length k.widths

      last : zeros_for k.zeros ≡ drop n v
      last = zero-blank k.zeros (drop n v) (fit-drop k.widths k.zeros v f.1) (and_left (all_zero (drop n v)) _ e)

      rest : cond (eqb x 0) (all_zero (x ∷ v)) (test (take n v)) ≡ true
      rest = and_right (all_zero (drop n v)) _ e

      free : eqb x 0 ≡ true → slot_out k (cond (eqb x 0) None (Some (k.of (take n v)))) ≡ x ∷ v
      free c = rw c (zero-blank (whole k) (x ∷ v) f (subst (λ (b : Bool). cond b (all_zero (x ∷ v)) (test (take n v)) ≡ true) c rest))

      taken : eqb x 0 ≡ false → slot_out k (cond (eqb x 0) None (Some (k.of (take n v)))) ≡ x ∷ v
      taken c =
          let ne = eq_no x 0 c in
          let one : x < 2 ^ 1 = f.0 in
          let flag : 1 ≡ x = omega arith in
          let passed : test (take n v) ≡ true = subst (λ (b : Bool). cond b (all_zero (x ∷ v)) (test (take n v)) ≡ true) c rest in
          rw c (ap₂ (λ (y : ℕ) (l : List ℕ). y ∷ l) flag
          (ap₂ (λ (l r : List ℕ). l ++ r) (ok.values_of (take n v) (length_fields k x v f) passed) last ∙ take-append-drop n v))

  pub ok-slot_out : (o : Option A) → passes k test o ≡ true → slot_ok k test (slot_out k o) ≡ true
  unfolding slot_out slot_ok
  ok-slot_out None e =
      and_yes _ _ (drop-zero (length k.widths) (zeros_for (k.widths ++ k.zeros)) (blank-zero (k.widths ++ k.zeros))) (blank-zero (whole k))
  ok-slot_out (Some a) e =
      and_yes _ _
      (ap all_zero (drop_at (k.values a) (zeros_for k.zeros) (length k.widths) (fit_length k.widths (k.values a) (ok.fits a e)))
      ∙ blank-zero k.zeros)
      (ap test (fields_out a e) ∙ e)

  pub passes-slot_in : (v : List ℕ) → Fit (whole k) v → slot_ok k test v ≡ true → passes k test (slot_in k v) ≡ true
  unfolding slot_in slot_ok
  passes-slot_in [] f e = absurd f
  passes-slot_in (x ∷ v) f e = go (eqb x 0) (and_right (all_zero (drop (length k.widths) v)) _ e)
    where
      n : ℕ
      n = length k.widths

      go : (c : Bool) → cond c (all_zero (x ∷ v)) (test (take n v)) ≡ true → passes k test (cond c None (Some (k.of (take n v)))) ≡ true
      go true h = refl
      go false h = ap test (ok.values_of (take n v) (length_fields k x v f) h) ∙ h

-- ---- arrays

module _ {A : Type 0} (k : RecordLayout A) where
  parts : (os : List (Option A)) → Parts (size (whole k)) (map (slot_bytes k) os)
  parts os = all_of_map (λ p. length p ≡ size (whole k)) (slot_bytes k) (λ o. length-pack (whole k) (slot_out k o)) os

  pub length-array_out : (os : List (Option A)) → length (array_out k os) ≡ length os * size (whole k)
  unfolding array_out
  length-array_out os =
      length-join (size (whole k)) (map (slot_bytes k) os) (parts os) ∙ ap (λ (n : ℕ). n * size (whole k)) (length-map os (slot_bytes k))

  pub are-array_out : (os : List (Option A)) → AreBytes (array_out k os)
  unfolding array_out
  are-array_out os =
      are-join (map (slot_bytes k) os) (all_of_map AreBytes (slot_bytes k) (λ o. are-pack (whole k) (slot_out k o)) os)

  pub array-append : (os ps : List (Option A)) → array_out k (os ++ ps) ≡ array_out k os ++ array_out k ps
  unfolding array_out
  array-append os ps = ap join (map-append (slot_bytes k) os ps) ∙ join-append (map (slot_bytes k) os) (map (slot_bytes k) ps)

  pub array-cons : (o : Option A) (os : List (Option A)) → array_out k (o ∷ os) ≡ slot_bytes k o ++ array_out k os
  unfolding array_out join
  array-cons o os = refl

  pub length-slots : (n : ℕ) (b : List ℕ) → length (slots k n b) ≡ n
  unfolding slots
  length-slots n b = length-map (cut (size (whole k)) n b) (unpack (whole k)) ∙ length_cut (size (whole k)) n b

  pub length-array_in : (n : ℕ) (b : List ℕ) → length (array_in k n b) ≡ n
  unfolding array_in
  length-array_in n b = length-map (slots k n b) (slot_in k) ∙ length-slots n b

module _ {A : Type 0} (k : RecordLayout A) (test : List ℕ → Bool) (ok : RecordLaws k test) where
  -- the slots of an array that was written
  pub slots-array_out : (n : ℕ) (os : List (Option A)) (rest : List ℕ) → length os ≡ n → every (map (passes k test) os) ≡ true
      → slots k n (array_out k os ++ rest) ≡ map (slot_out k) os
  unfolding slots array_out
  slots-array_out n os rest l e =
      ap (map (unpack (whole k))) (cut-join (size (whole k)) n (map (slot_bytes k) os) rest (parts k os) (length-map os (slot_bytes k) ∙ l)) ∙ go os e
    where
      go : (xs : List (Option A)) → every (map (passes k test) xs) ≡ true → map (unpack (whole k)) (map (slot_bytes k) xs) ≡ map (slot_out k) xs
      go [] p = refl
      go (x ∷ xs) p =
          ap₂ (λ (y : List ℕ) (l : List (List ℕ)). y ∷ l)
          (unpack-pack (whole k) (slot_out k x) ok.aligned (fit-slot_out k test ok x (and_left (passes k test x) _ p))) (go xs (and_right (passes k test x) _ p))

  -- written and read again
  pub array-in-out : (n : ℕ) (os : List (Option A)) (rest : List ℕ) → length os ≡ n → every (map (passes k test) os) ≡ true
      → array_in k n (array_out k os ++ rest) ≡ os
  unfolding array_in
  array-in-out n os rest l e = ap (map (slot_in k)) (slots-array_out n os rest l e) ∙ go os e
    where
      go : (xs : List (Option A)) → every (map (passes k test) xs) ≡ true → map (slot_in k) (map (slot_out k) xs) ≡ xs
      go [] p = refl
      go (x ∷ xs) p =
          ap₂ (λ (y : Option A) (l : List (Option A)). y ∷ l) (slot-in-out k test ok x (and_left (passes k test x) _ p)) (go xs (and_right (passes k test x) _ p))

  pub ok-array_out : (n : ℕ) (os : List (Option A)) (rest : List ℕ) → length os ≡ n → every (map (passes k test) os) ≡ true
      → every (map (slot_ok k test) (slots k n (array_out k os ++ rest))) ≡ true
  ok-array_out n os rest l e = ap (λ (vs : List (List ℕ)). every (map (slot_ok k test) vs)) (slots-array_out n os rest l e) ∙ go os e
    where
      go : (xs : List (Option A)) → every (map (passes k test) xs) ≡ true → every (map (slot_ok k test) (map (slot_out k) xs)) ≡ true
      go [] p = refl
      go (x ∷ xs) p = and_yes _ _ (ok-slot_out k test ok x (and_left (passes k test x) _ p)) (go xs (and_right (passes k test x) _ p))

  pub passes-array_in : (n : ℕ) (b : List ℕ) → every (map (slot_ok k test) (slots k n b)) ≡ true
      → every (map (passes k test) (array_in k n b)) ≡ true
  unfolding array_in slots
  passes-array_in n b h = go (cut (size (whole k)) n b) h
    where
      go : (ps : List (List ℕ)) → every (map (slot_ok k test) (map (unpack (whole k)) ps)) ≡ true
          → every (map (passes k test) (map (slot_in k) (map (unpack (whole k)) ps))) ≡ true
      go [] e = refl
      go (p ∷ ps) e =
          let v : List ℕ = unpack (whole k) p in
          and_yes _ _ (passes-slot_in k test ok v (fit-unpack (whole k) p) (and_left (slot_ok k test v) _ e)) (go ps (and_right (slot_ok k test v) _ e))

  -- read and written again
  pub array-out-in : (n : ℕ) (b : List ℕ) → n * size (whole k) ≤ length b → AreBytes b → every (map (slot_ok k test) (slots k n b)) ≡ true
      → array_out k (array_in k n b) ≡ take (n * size (whole k)) b
  unfolding array_in array_out slots
  array-out-in n b h hb s =
      ap join (go (cut (size (whole k)) n b) (parts_cut (size (whole k)) n b h) (are-cut (size (whole k)) n b hb) s) ∙ join-cut (size (whole k)) n b
    where
      go : (ps : List (List ℕ)) → Parts (size (whole k)) ps → All AreBytes ps → every (map (slot_ok k test) (map (unpack (whole k)) ps)) ≡ true
          → map (slot_bytes k) (map (slot_in k) (map (unpack (whole k)) ps)) ≡ ps
      go [] l a e = refl
      go (p ∷ ps) l a e =
          let v : List ℕ = unpack (whole k) p in
          ap₂ (λ (y : List ℕ) (r : List (List ℕ)). y ∷ r)
          (ap (pack (whole k)) (slot-out-in k test ok v (fit-unpack (whole k) p) (and_left (slot_ok k test v) _ e)) ∙ pack-unpack (whole k) p ok.aligned a.0 l.0)
          (go ps l.1 a.1 (and_right (slot_ok k test v) _ e))

-- ---- slot i, read straight off the bytes

module _ {A : Type 0} (k : RecordLayout A) (e : WholeBytes (whole k)) where
  -- the numbers of slot i of n, the first of which begins at byte f
  pub slot-at : (n i f : ℕ) (b : List ℕ) → i < n → f + n * size (whole k) ≤ length b
      → get_or (slots k n (drop f b)) i [] ≡ fields b (8 * (f + i * size (whole k))) (whole k)
  unfolding slots cut
  slot-at zero i f b h l = absurd (not-suc-le-zero h)
  slot-at (suc n) zero f b h l =
      let z : 8 * f ≡ 8 * (f + 0 * size (whole k)) = omega arith in
      unpack-within b f (whole k) e (omega arith) ∙ ap (λ (m : ℕ). fields b m (whole k)) z
  slot-at (suc n) (suc i) f b h l =
      let z : 8 * (f + size (whole k) + i * size (whole k)) ≡ 8 * (f + suc i * size (whole k)) = omega arith in
      ap (λ (d : List ℕ). get_or (map (unpack (whole k)) (cut (size (whole k)) n d)) i []) (drop-drop (size (whole k)) f b)
      ∙ slot-at n i (f + size (whole k)) b (le_of_suc-le-suc h) (omega arith) ∙ ap (λ (m : ℕ). fields b m (whole k)) z

  -- and what it holds
  pub held_at : (n i f : ℕ) (b : List ℕ) → i < n → f + n * size (whole k) ≤ length b
      → get_or (array_in k n (drop f b)) i None ≡ slot_in k (fields b (8 * (f + i * size (whole k))) (whole k))
  unfolding array_in
  held_at n i f b h l =
      get_or-map (slot_in k) (slots k n (drop f b)) i [] None (omega (arith, length-slots k n (drop f b))) ∙ ap (slot_in k) (slot-at n i f b h l)
