-- Bytes put in, taken out, written over and tested for zeros: a part that is lent and edited, and what the copies and the test leave.
-- Assumes nothing.
use mathlib.Core.Path.{◌≡◌, sym, ap, ap₂, ◌∙◌}
use mathlib.Core.Bool.{Bool, ◌&&◌}
use mathlib.Core.List.{List, [], ◌∷◌, ◌++◌, append_assoc, append-nil}
use Prim.Native.Nat.{ℕ, zero, suc, ◌+◌, ◌-◌, ◌≤◌}
use native.Mathlib.Omega.{arith}
use borrow.Rule.Slice.PartMut.{mid_of, put_mid, Post-is}
use lib.Bits.{bit_or, or_zero_l}
use lib.Dec.{eqb, eqb-suc-zero}
use lib.ListN.{length, take, drop, replicate, length-append, length-drop}
use lib.Seq.{length-take-le, take_all, take_at, drop_at, take-take, drop-length, take-append-le, paste}
use Rattle.std.specs.List.{fold}
use Rattle.std.proofs.Math.Bool.{and-true, and_assoc}
use Rattle.std.proofs.lemmas.Nat.{le_or_l}
use Rattle.basics.proofs.Tests.{no_eq}
use Rattle.records.specs.Slots.{all_zero}
use Rattle.records.specs.Edits.{insert_at, remove_at, replace_at, zero_at, on_part}

-- ---- parts of bytes

-- what the loan of a part leaves
pub part-lent : (from to : ℕ) (f : List ℕ → List ℕ) (b x : List ℕ) → from ≤ to → x ≡ f (mid_of from (to - from) b)
    → put_mid from (to - from) b x ≡ on_part from to f b
unfolding on_part
part-lent from to f b x h e = ap₂ (λ (y z : List ℕ). take from b ++ (y ++ z)) e (Post-is from to b h)

-- ---- bytes copied within bytes

-- the bytes from `at` on are copied up by the length of `new`, which is written over the gap
pub copied-insert : (b d c new : List ℕ) (at : ℕ) → d ≡ paste b (at + length new) (drop at b) (length b - length new - at) → c ≡ replace_at at new d
    → at + length new ≤ length b → c ≡ insert_at at new b
unfolding replace_at insert_at
copied-insert b d c new at e f h =
    let n = length new in
    let kept = length b - n - at in
    let fits : at + n + kept ≡ length b = omega arith in
    let F : List ℕ = take (at + n) b in
    let l_f : length F ≡ at + n = length-take-le (at + n) b h in
    let split : d ≡ F ++ take kept (drop at b) =
    e ∙ ap (λ (m : ℕ). F ++ take kept (drop at b) ++ drop m b) fits
    ∙ ap (λ (x : List ℕ). F ++ take kept (drop at b) ++ x) (drop-length b) ∙ append-nil (F ++ take kept (drop at b)) in
    let front : take at d ≡ take at b =
    ap (take at) split ∙ take-append-le at F (take kept (drop at b)) (omega arith) ∙ take-take at (at + n) b (omega arith) in
    let rest : drop (at + n) d ≡ take kept (drop at b) = ap (drop (at + n)) split ∙ drop_at F (take kept (drop at b)) (at + n) l_f in
    f ∙ ap₂ (λ (x y : List ℕ). x ++ (new ++ y)) front rest

-- the bytes after the n at `at` are copied down by n, and the n at the end are lent and cleared
pub copied-remove : (b d x : List ℕ) (at n : ℕ) → d ≡ paste b at (drop (at + n) b) (length b - (at + n))
    → x ≡ replicate (length (mid_of (length b - n) (length d - (length b - n)) d)) 0 → length d ≡ length b → at + n ≤ length b
    → put_mid (length b - n) (length d - (length b - n)) d x ≡ remove_at at n b
unfolding remove_at
copied-remove b d x at n e f ld h =
    let kept = length b - n in
    let X : List ℕ = drop (at + n) b in
    let P : List ℕ = take at b ++ X in
    let l_p : length P ≡ kept = simp length-append (omega (arith, length-take-le at b (omega arith), length-drop (at + n) b)) in
    let split : d ≡ P ++ drop (at + (length b - (at + n))) b =
    e ∙ ap (λ (y : List ℕ). take at b ++ y ++ drop (at + (length b - (at + n))) b) (take_all (length b - (at + n)) X (omega (arith, length-drop (at + n) b))) in
    let front : take kept d ≡ P = ap (take kept) split ∙ take_at P _ kept l_p in
    let many : length (take (length d - kept) (drop kept d)) ≡ n =
    length-take-le (length d - kept) (drop kept d) (omega (arith, length-drop kept d)) ∙ omega arith in
    let after : drop (length d - kept) (drop kept d) ≡ [] = Post-is kept (length d) d (omega arith) ∙ drop-length d in
    let zeros : x ≡ replicate n 0 = f ∙ ap (λ (k : ℕ). replicate k 0) many in
    let end : x ++ drop (length d - kept) (drop kept d) ≡ replicate n 0 = ap₂ (λ (y z : List ℕ). y ++ z) zeros after ∙ append-nil (replicate n 0) in
    ap₂ (λ (y z : List ℕ). y ++ z) front end ∙ append_assoc (take at b) X (replicate n 0)

-- ---- the test for zeros

or-zero : (x y : ℕ) → eqb (bit_or x y) 0 ≡ eqb x 0 && eqb y 0
or-zero zero y = ap (λ (k : ℕ). eqb k 0) (or_zero_l y)
or-zero (suc x) y =
    no_eq (bit_or (suc x) y) 0 (λ e. omega (arith, e, le_or_l (suc x) y)) ∙ sym (ap (λ (k : Bool). k && eqb y 0) (eqb-suc-zero x))

or_all : (x : ℕ) (ys : List ℕ) → eqb (fold bit_or x ys) 0 ≡ eqb x 0 && all_zero ys
or_all x [] = sym (and-true (eqb x 0))
or_all x (y ∷ ys) = or_all (bit_or x y) ys ∙ ap (λ (k : Bool). k && all_zero ys) (or-zero x y) ∙ and_assoc (eqb x 0) (eqb y 0) (all_zero ys)

pub zero_where : (b : List ℕ) (at n r : ℕ) → r ≡ fold bit_or 0 (take (at + n - at) (drop at b)) → eqb r 0 ≡ zero_at at n b
unfolding zero_at
zero_where b at n r e =
    let long : at + n - at ≡ n = omega arith in
    ap (λ (k : ℕ). eqb k 0) e ∙ or_all 0 (take (at + n - at) (drop at b)) ∙ ap (λ (k : ℕ). all_zero (take k (drop at b))) long
