-- Arrays in bytes, with other bytes before and after them: what inserting, removing and replacing a slot does to the bytes.
-- Assumes nothing.
use Rattle.std.specs.Prelude.{Option, None, Some}
use mathlib.Core.Path.{◌≡◌, refl, sym, ap, ap₂, ◌∙◌}
use mathlib.Core.List.{List, [], ◌∷◌, ◌++◌, map, append_assoc, append-nil}
use Prim.Native.Nat.{ℕ, suc, ◌+◌, ◌-◌, ◌*◌, ◌<◌, ◌≤◌}
use native.Mathlib.Omega.{arith}
use lib.ListN.{length, take, drop, get_or, set, replicate, length-append, length-drop, length-map, take-append-drop}
use lib.Seq.{length-take-le, take_at, drop_at, drop-drop, set_split, split_at}
use Rattle.std.proofs.lemmas.List.{take-map, drop-map, map-append, nil_from_length}
use Rattle.records.specs.Pack.{size, WholeBytes}
use Rattle.records.specs.Slots.{RecordLayout, whole, slot_out, slot_bytes, array_out}
use Rattle.records.specs.Places.{places, inserted, removed}
use Rattle.records.specs.Edits.{insert_at, remove_at, replace_at, on_part}
use Rattle.records.proofs.Pack.{length-pack}
use Rattle.records.proofs.Slots.{length-array_out, array-append, array-cons}
use Rattle.records.proofs.Zeros.{free-slot}
use Rattle.records.proofs.Places.{length-places, places-set}

-- ---- pieces of bytes

-- `new` comes in, and c moves up over z
pub insert-pieces : (q c z new : List ℕ) (i : ℕ) → length q ≡ i → length new ≡ length z → insert_at i new (q ++ (c ++ z)) ≡ q ++ (new ++ c)
unfolding insert_at
insert-pieces q c z new i hq hz =
    let B : List ℕ = q ++ (c ++ z) in
    let m : length B - length new - i ≡ length c = omega (arith, length-append q (c ++ z), length-append c z) in
    ap₂ (λ (x y : List ℕ). x ++ (new ++ y)) (take_at q (c ++ z) i hq)
    (ap₂ (λ (k : ℕ) (x : List ℕ). take k x) m (drop_at q (c ++ z) i hq) ∙ take_at c z (length c) refl)

-- x goes, c moves down, and zeros come after it
pub remove-pieces : (q x c : List ℕ) (i n : ℕ) → length q ≡ i → length x ≡ n → remove_at i n (q ++ (x ++ c)) ≡ q ++ (c ++ replicate n 0)
unfolding remove_at
remove-pieces q x c i n hq hx =
    ap₂ (λ (y z : List ℕ). y ++ (z ++ replicate n 0)) (take_at q (x ++ c) i hq)
    (sym (drop-drop n i (q ++ (x ++ c))) ∙ ap (drop n) (drop_at q (x ++ c) i hq) ∙ drop_at x c n hx)

-- x goes, and `new` comes in its place
pub replace-pieces : (q x d new : List ℕ) (i : ℕ) → length q ≡ i → length new ≡ length x → replace_at i new (q ++ (x ++ d)) ≡ q ++ (new ++ d)
unfolding replace_at
replace-pieces q x d new i hq hx =
    ap₂ (λ (y z : List ℕ). y ++ (new ++ z)) (take_at q (x ++ d) i hq)
    (sym (drop-drop (length new) i (q ++ (x ++ d))) ∙ ap (drop (length new)) (drop_at q (x ++ d) i hq) ∙ drop_at x d (length new) (sym hx))

-- a part of the bytes, with h before it and r after it, is edited
pub part-pieces : (h a r : List ℕ) (f : List ℕ → List ℕ) (from to : ℕ) → length h ≡ from → from + length a ≡ to
    → on_part from to f (h ++ (a ++ r)) ≡ h ++ (f a ++ r)
unfolding on_part
part-pieces h a r f from to hh ha =
    let B : List ℕ = h ++ (a ++ r) in
    let m : to - from ≡ length a = omega arith in
    let behind : drop from B ≡ a ++ r = drop_at h (a ++ r) from hh in
    let rest : drop to B ≡ r =
    ap (λ (k : ℕ). drop k B) (sym ha) ∙ sym (drop-drop (length a) from B) ∙ ap (drop (length a)) behind ∙ drop_at a r (length a) refl in
    ap₂ (λ (x y : List ℕ). x ++ (f (take (to - from) y) ++ drop to B)) (take_at h (a ++ r) from hh) behind
    ∙ ap₂ (λ (k : ℕ) (x : List ℕ). h ++ (f (take k (a ++ r)) ++ x)) m rest
    ∙ ap (λ (x : List ℕ). h ++ (f x ++ r)) (take_at a r (length a) refl)

-- ---- slots of an array

module _ {A : Type 0} (k : RecordLayout A) where
  array-three : (os : List (Option A)) (o : Option A) (ps : List (Option A)) → array_out k (os ++ (o ∷ ps)) ≡ array_out k os ++ (slot_bytes k o ++ array_out k ps)
  array-three os o ps = array-append k os (o ∷ ps) ∙ ap (λ (b : List ℕ). array_out k os ++ b) (array-cons k o ps)

  array-last : (os : List (Option A)) (o : Option A) → array_out k (os ++ (o ∷ [])) ≡ array_out k os ++ slot_bytes k o
  array-last os o =
      array-three os o [] ∙ ap (λ (b : List ℕ). array_out k os ++ (slot_bytes k o ++ b)) none_out
      ∙ ap (λ (b : List ℕ). array_out k os ++ b) (append-nil (slot_bytes k o))
    where
      none_out : array_out k [] ≡ []
      none_out = nil_from_length (array_out k []) (omega (arith, length-array_out k []))

  length-take-array : (os : List (Option A)) (i : ℕ) → i ≤ length os → length (array_out k (take i os)) ≡ i * size (whole k)
  length-take-array os i h = length-array_out k (take i os) ∙ ap (λ (n : ℕ). n * size (whole k)) (length-take-le i os h)

  same_size : (o p : Option A) → length (slot_bytes k o) ≡ length (slot_bytes k p)
  same_size o p = length-pack (whole k) (slot_out k o) ∙ sym (length-pack (whole k) (slot_out k p))

  -- a slot comes in before slot i, and the last one is lost
  pub array-insert : (os : List (Option A)) (last o : Option A) (i : ℕ) → i ≤ length os
      → insert_at (i * size (whole k)) (slot_bytes k o) (array_out k (os ++ (last ∷ []))) ≡ array_out k (inserted i o os)
  array-insert os last o i h =
      let F : List ℕ = array_out k (take i os) in
      let D : List ℕ = array_out k (drop i os) in
      let old : array_out k (os ++ (last ∷ [])) ≡ F ++ (D ++ slot_bytes k last) =
      array-last os last ∙ ap (λ (xs : List (Option A)). array_out k xs ++ slot_bytes k last) (sym (take-append-drop i os))
      ∙ ap (λ (b : List ℕ). b ++ slot_bytes k last) (array-append k (take i os) (drop i os)) ∙ append_assoc F D (slot_bytes k last) in
      ap (insert_at (i * size (whole k)) (slot_bytes k o)) old
      ∙ insert-pieces F D (slot_bytes k last) (slot_bytes k o) (i * size (whole k)) (length-take-array os i h) (same_size o last)
      ∙ sym (array-three (take i os) o (drop i os))

  -- slot i goes, and a free slot comes at the end
  pub array-remove : WholeBytes (whole k) → (os : List (Option A)) (i : ℕ) → i < length os
      → remove_at (i * size (whole k)) (size (whole k)) (array_out k os) ≡ array_out k (removed i os ++ (None ∷ []))
  array-remove e os i h =
      let F : List ℕ = array_out k (take i os) in
      let D : List ℕ = array_out k (drop (suc i) os) in
      let x : Option A = get_or os i None in
      ap (λ (xs : List (Option A)). remove_at (i * size (whole k)) (size (whole k)) (array_out k xs)) (split_at os i None h)
      ∙ ap (remove_at (i * size (whole k)) (size (whole k))) (array-three (take i os) x (drop (suc i) os))
      ∙ remove-pieces F (slot_bytes k x) D (i * size (whole k)) (size (whole k)) (length-take-array os i (omega arith)) (length-pack (whole k) (slot_out k x))
      ∙ ap (λ (b : List ℕ). F ++ (D ++ b)) (sym (free-slot k e))
      ∙ sym (append_assoc F D (slot_bytes k None)) ∙ ap (λ (b : List ℕ). b ++ slot_bytes k None) (sym (array-append k (take i os) (drop (suc i) os)))
      ∙ sym (array-last (removed i os) None)

  -- slot i is replaced, with h before the array and r after it
  pub array-replace : (h r : List ℕ) (os : List (Option A)) (o : Option A) (i from : ℕ) → length h ≡ from → i < length os
      → replace_at (from + i * size (whole k)) (slot_bytes k o) (h ++ (array_out k os ++ r)) ≡ h ++ (array_out k (set os i o) ++ r)
  array-replace h r os o i from hh l =
      let F : List ℕ = array_out k (take i os) in
      let D : List ℕ = array_out k (drop (suc i) os) in
      let x : Option A = get_or os i None in
      let pieces : (p : Option A) → h ++ (array_out k (take i os ++ (p ∷ drop (suc i) os)) ++ r) ≡ (h ++ F) ++ (slot_bytes k p ++ (D ++ r)) =
      λ p. ap (λ (b : List ℕ). h ++ (b ++ r)) (array-three (take i os) p (drop (suc i) os)) ∙ regroup h F (slot_bytes k p) D r in
      let place : length (h ++ F) ≡ from + i * size (whole k) =
      length-append h F ∙ ap₂ (λ (m n : ℕ). m + n) hh (length-take-array os i (omega arith)) in
      ap (λ (xs : List (Option A)). replace_at (from + i * size (whole k)) (slot_bytes k o) (h ++ (array_out k xs ++ r))) (split_at os i None l)
      ∙ ap (replace_at (from + i * size (whole k)) (slot_bytes k o)) (pieces x)
      ∙ replace-pieces (h ++ F) (slot_bytes k x) (D ++ r) (slot_bytes k o) (from + i * size (whole k)) place (same_size o x)
      ∙ sym (pieces o) ∙ ap (λ (xs : List (Option A)). h ++ (array_out k xs ++ r)) (sym (set_split os i o l))
    where
      regroup : (a b c d e : List ℕ) → a ++ ((b ++ (c ++ d)) ++ e) ≡ (a ++ b) ++ (c ++ (d ++ e))
      regroup a b c d e = simp append_assoc

-- ---- records that come first in their array, with h before the array and r after it

module _ {A : Type 0} (k : RecordLayout A) (e : WholeBytes (whole k)) (h r : List ℕ) (n from : ℕ) (hh : length h ≡ from) where
  -- the bytes up to the slots of xs, those of m slots, and the rest
  places-parts : (os : List (Option A)) (xs : List A) (m : ℕ) → os ++ replicate m None ≡ places n xs
      → h ++ (array_out k (places n xs) ++ r) ≡ h ++ (array_out k os ++ (array_out k (replicate m None) ++ r))
  places-parts os xs m q =
      ap (λ (ps : List (Option A)). h ++ (array_out k ps ++ r)) (sym q)
      ∙ ap (λ (b : List ℕ). h ++ (b ++ r)) (array-append k os (replicate m None))
      ∙ ap (λ (b : List ℕ). h ++ b) (append_assoc (array_out k os) (array_out k (replicate m None)) r)

  ends : (os : List (Option A)) (m : ℕ) → length os ≡ m → from + length (array_out k os) ≡ from + m * size (whole k)
  ends os m l = ap (λ (i : ℕ). from + i) (length-array_out k os ∙ ap (λ (i : ℕ). i * size (whole k)) l)

  -- the record x comes in before place i: the part that changes is that of the records and of one free slot
  pub places-insert : (xs : List A) (x : A) (i : ℕ) → i ≤ length xs → length xs < n
      → on_part from (from + suc (length xs) * size (whole k)) (insert_at (i * size (whole k)) (slot_bytes k (Some x))) (h ++ (array_out k (places n xs) ++ r))
      ≡ h ++ (array_out k (places n (inserted i x xs)) ++ r)
  unfolding places
  places-insert xs x i l m =
      let os : List (Option A) = map Some xs ++ (None ∷ []) in
      let free : ℕ = n - suc (length xs) in
      let one : suc free ≡ n - length xs = omega arith in
      let old : os ++ replicate free None ≡ places n xs =
      append_assoc (map Some xs) (None ∷ []) (replicate free None) ∙ ap (λ (j : ℕ). map Some xs ++ replicate j None) one in
      let many : length (inserted i x xs) ≡ suc (length xs) =
      length-append (take i xs) (x ∷ drop i xs) ∙ omega (arith, length-take-le i xs l, length-drop i xs) in
      let new : map Some (inserted i x xs) ++ replicate free None ≡ places n (inserted i x xs) =
      ap (λ (j : ℕ). map Some (inserted i x xs) ++ replicate (n - j) None) (sym many) in
      let count : length os ≡ suc (length xs) = length-append (map Some xs) (None ∷ []) ∙ omega (arith, length-map xs Some) in
      let slots : inserted i (Some x) (map Some xs) ≡ map Some (inserted i x xs) =
      ap₂ (λ (p q : List (Option A)). p ++ (Some x ∷ q)) (take-map Some i xs) (drop-map Some i xs) ∙ sym (map-append Some (take i xs) (x ∷ drop i xs)) in
      let f : List ℕ → List ℕ = insert_at (i * size (whole k)) (slot_bytes k (Some x)) in
      ap (on_part from (from + suc (length xs) * size (whole k)) f) (places-parts os xs free old)
      ∙ part-pieces h (array_out k os) (array_out k (replicate free None) ++ r) f from (from + suc (length xs) * size (whole k)) hh (ends os (suc (length xs)) count)
      ∙ ap (λ (b : List ℕ). h ++ (b ++ (array_out k (replicate free None) ++ r)))
      (array-insert k (map Some xs) None (Some x) i (omega (arith, length-map xs Some)) ∙ ap (array_out k) slots)
      ∙ sym (places-parts (map Some (inserted i x xs)) (inserted i x xs) free new)

  -- the record at place i goes: the part that changes is that of the records
  pub places-remove : (xs : List A) (i : ℕ) → i < length xs → length xs ≤ n
      → on_part from (from + length xs * size (whole k)) (remove_at (i * size (whole k)) (size (whole k))) (h ++ (array_out k (places n xs) ++ r))
      ≡ h ++ (array_out k (places n (removed i xs)) ++ r)
  unfolding places
  places-remove xs i l m =
      let os : List (Option A) = map Some xs in
      let free : ℕ = n - length xs in
      let many : length (removed i xs) ≡ length xs - 1 =
      length-append (take i xs) (drop (suc i) xs) ∙ omega (arith, length-take-le i xs (omega arith), length-drop (suc i) xs) in
      let one : suc free ≡ n - (length xs - 1) = omega arith in
      let new : (map Some (removed i xs) ++ (None ∷ [])) ++ replicate free None ≡ places n (removed i xs) =
      append_assoc (map Some (removed i xs)) (None ∷ []) (replicate free None)
      ∙ ap (λ (j : ℕ). map Some (removed i xs) ++ replicate j None) (one ∙ ap (λ (j : ℕ). n - j) (sym many)) in
      let slots : removed i os ≡ map Some (removed i xs) =
      ap₂ (λ (p q : List (Option A)). p ++ q) (take-map Some i xs) (drop-map Some (suc i) xs) ∙ sym (map-append Some (take i xs) (drop (suc i) xs)) in
      let f : List ℕ → List ℕ = remove_at (i * size (whole k)) (size (whole k)) in
      ap (on_part from (from + length xs * size (whole k)) f) (places-parts os xs free refl)
      ∙ part-pieces h (array_out k os) (array_out k (replicate free None) ++ r) f from (from + length xs * size (whole k)) hh (ends os (length xs) (length-map xs Some))
      ∙ ap (λ (b : List ℕ). h ++ (b ++ (array_out k (replicate free None) ++ r)))
      (array-remove k e os i (omega (arith, length-map xs Some)) ∙ ap (λ (ps : List (Option A)). array_out k (ps ++ (None ∷ []))) slots)
      ∙ sym (places-parts (map Some (removed i xs) ++ (None ∷ [])) (removed i xs) free new)

  -- the record x comes in the stead of that at place i
  pub places-replace : (xs : List A) (x : A) (i : ℕ) → i < length xs → length xs ≤ n
      → replace_at (from + i * size (whole k)) (slot_bytes k (Some x)) (h ++ (array_out k (places n xs) ++ r)) ≡ h ++ (array_out k (places n (set xs i x)) ++ r)
  places-replace xs x i l m =
      array-replace k h r (places n xs) (Some x) i from hh (omega (arith, length-places n xs m))
      ∙ ap (λ (os : List (Option A)). h ++ (array_out k os ++ r)) (sym (places-set n xs i x l))
