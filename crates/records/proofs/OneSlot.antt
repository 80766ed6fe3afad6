-- Slot i of an array, read straight off the bytes, and the slots from slot i on. Assumes nothing.
use Rattle.std.specs.Prelude.{None}
use mathlib.Core.Path.{◌≡◌, refl, sym, ap, ap₂, ◌∙◌}
use mathlib.Core.Bool.{Bool, true, false, ◌&&◌}
use mathlib.Core.List.{List, [], ◌∷◌, ◌++◌, map}
use Prim.Native.Nat.{ℕ, zero, suc, ◌+◌, ◌-◌, ◌*◌, ◌≤◌, ◌<◌}
use native.Mathlib.Omega.{arith}
use native.Mathlib.Numerals.{add-one}
use lib.Dec.{eqb}
use lib.ListN.{length, take, drop, get_or}
use lib.Seq.{drop-cons, drop-drop, take-add}
use Rattle.std.proofs.Math.Bool.{and_assoc}
use Rattle.basics.specs.Tests.{every}
use Rattle.fields.specs.Field.{AreBytes}
use Rattle.records.specs.Pack.{size, WholeBytes, unpack, cut}
use Rattle.records.specs.Slots.{RecordLayout, whole, all_zero, slot_in, slots, array_in}
use Rattle.records.specs.OneSlot.{slot_numbers, slot_at}
use Rattle.records.specs.Edits.{zero_at}
use Rattle.records.proofs.Pack.{unpack-within}
use Rattle.basics.proofs.ListTests.{at-every-map, fails-every-map}
use Rattle.records.proofs.Slots.{length-slots, slot-at, held_at}
use Rattle.records.proofs.Zeros.{zero_at-fields}

-- zero bytes are slots of zeros
zero_at-none : (b : List ℕ) (f : ℕ) → zero_at f 0 b ≡ true
unfolding zero_at
zero_at-none b f = refl

zero_at-add : (b : List ℕ) (f m n : ℕ) → zero_at f (m + n) b ≡ zero_at f m b && zero_at (f + m) n b
unfolding zero_at
zero_at-add b f m n = ap (λ (x : List ℕ). all_zero x) (take-add m n (drop f b)) ∙ all_append (take m (drop f b)) (take n (drop m (drop f b))) ∙ ap (λ (d : List ℕ). all_zero (take m (drop f b)) && all_zero (take n d)) (drop-drop m f b)
  where
    all_append : (x y : List ℕ) → all_zero (x ++ y) ≡ all_zero x && all_zero y
    all_append [] y = refl
    all_append (a ∷ x) y = ap (λ (p : Bool). eqb a 0 && p) (all_append x y) ∙ sym (and_assoc (eqb a 0) (all_zero x) (all_zero y))

module _ {A : Type 0} (k : RecordLayout A) (e : WholeBytes (whole k)) where
  zero-slots : (m f : ℕ) (b : List ℕ) → AreBytes b → f + m * size (whole k) ≤ length b → zero_at f (m * size (whole k)) b ≡ every (map all_zero (slots k m (drop f b)))
  unfolding slots cut
  zero-slots zero f b h l = let z : 0 * size (whole k) ≡ 0 = omega arith in ap (λ (n : ℕ). zero_at f n b) z ∙ zero_at-none b f
  zero-slots (suc m) f b h l =
      let s : ℕ = size (whole k) in
      let le : f + s + m * s ≤ length b = omega arith in
      ap (λ (n : ℕ). zero_at f n b) (omega arith) ∙ zero_at-add b f s (m * s)
      ∙ ap₂ (λ (p q : Bool). p && q)
      (zero_at-fields b f (whole k) h e (omega arith) ∙ ap (λ (v : List ℕ). all_zero v) (sym (unpack-within b f (whole k) e (omega arith))))
      (zero-slots m (f + s) b h le ∙ ap (λ (d : List ℕ). every (map all_zero (map (unpack (whole k)) (cut s m d)))) (sym (drop-drop s f b)))

  drop-slots : (i n m f : ℕ) (b : List ℕ) → i + m ≡ n → drop i (slots k n (drop f b)) ≡ slots k m (drop (f + i * size (whole k)) b)
  unfolding slots cut
  drop-slots zero n m f b h =
      let e : n ≡ m = omega arith in
      let g : f ≡ f + 0 * size (whole k) = omega arith in
      ap₂ (λ (j p : ℕ). map (unpack (whole k)) (cut (size (whole k)) j (drop p b))) e g
  drop-slots (suc i) zero m f b h = let z : ⊥ = omega arith in absurd z
  drop-slots (suc i) (suc n) m f b h =
      let g : f + size (whole k) + i * size (whole k) ≡ f + suc i * size (whole k) = omega arith in
      ap (λ (d : List ℕ). drop i (map (unpack (whole k)) (cut (size (whole k)) n d))) (drop-drop (size (whole k)) f b)
      ∙ drop-slots i n m (f + size (whole k)) b (omega arith)
      ∙ ap (λ (p : ℕ). map (unpack (whole k)) (cut (size (whole k)) m (drop p b))) g

  -- of n slots from byte f on
  module _ (n f : ℕ) (b : List ℕ) (long : f + n * size (whole k) ≤ length b) where
    inside : (i : ℕ) → i < n → f + i * size (whole k) + size (whole k) ≤ length b
    inside i h = omega (arith, native.Mathlib.Nat.mul-le-mul_right (size (whole k)) h)

    pub slot-numbers : (i : ℕ) → i < n → get_or (slots k n (drop f b)) i [] ≡ slot_at k f b i
    unfolding slot_at slot_numbers
    slot-numbers i h = slot-at k e n i f b h long ∙ sym (unpack-within b (f + i * size (whole k)) (whole k) e (inside i h))

    pub slot-holds : (i : ℕ) → i < n → get_or (array_in k n (drop f b)) i None ≡ slot_in k (slot_at k f b i)
    unfolding slot_at slot_numbers
    slot-holds i h = held_at k e n i f b h long ∙ ap (slot_in k) (sym (unpack-within b (f + i * size (whole k)) (whole k) e (inside i h)))

    -- a test of all slots, by each
    pub slots-pass : (test : List ℕ → Bool) → ((i : ℕ) → i < n → test (slot_at k f b i) ≡ true) → every (map test (slots k n (drop f b))) ≡ true
    slots-pass test t = at-every-map test [] (slots k n (drop f b))
        (λ i h. let m : i < n = omega (arith, length-slots k n (drop f b)) in ap test (slot-numbers i m) ∙ t i m)

    pub slots-fail : (test : List ℕ → Bool) (i : ℕ) → i < n → test (slot_at k f b i) ≡ false → every (map test (slots k n (drop f b))) ≡ false
    slots-fail test i h t = fails-every-map test [] (slots k n (drop f b)) i (omega (arith, length-slots k n (drop f b))) (ap test (slot-numbers i h) ∙ t)

    -- the slots from slot i on
    pub slots_next : (i : ℕ) → i < n → drop i (slots k n (drop f b)) ≡ slot_at k f b i ∷ drop (i + 1) (slots k n (drop f b))
    slots_next i h =
        drop-cons (slots k n (drop f b)) i [] (omega (arith, length-slots k n (drop f b)))
        ∙ ap₂ (λ (v : List ℕ) (j : ℕ). v ∷ drop j (slots k n (drop f b))) (slot-numbers i h) (sym (add-one i))

    pub zero_rest : (i : ℕ) → AreBytes b → i < n → zero_at (f + i * size (whole k)) (f + n * size (whole k) - (f + i * size (whole k))) b ≡ every (map all_zero (drop i (slots k n (drop f b))))
    zero_rest i h l = go (n - i) (omega arith)
      where
        go : (m : ℕ) → i + m ≡ n → zero_at (f + i * size (whole k)) (f + n * size (whole k) - (f + i * size (whole k))) b ≡ every (map all_zero (drop i (slots k n (drop f b))))
        go m c =
            let whole-rest : (i + m) * size (whole k) ≡ n * size (whole k) = ap (λ (j : ℕ). j * size (whole k)) c in
            let bytes : f + n * size (whole k) - (f + i * size (whole k)) ≡ m * size (whole k) = omega arith in
            ap (λ (j : ℕ). zero_at (f + i * size (whole k)) j b) bytes ∙ zero-slots m (f + i * size (whole k)) b h (omega arith)
            ∙ ap (λ (vs : List (List ℕ)). every (map all_zero vs)) (sym (drop-slots i n m f b c))
