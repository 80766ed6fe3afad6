-- Bytes written over others: what is there, what is after it, how many there are, bytes written over themselves, and a part that is lent and written whole. Assumes nothing.
use mathlib.Core.Path.{◌≡◌, refl, sym, ap, ◌∙◌}
use mathlib.Core.List.{List, ◌++◌, append_assoc}
use Prim.Native.Nat.{ℕ, ◌+◌, ◌-◌, ◌≤◌}
use native.Mathlib.Omega.{arith}
use borrow.Rule.Slice.PartMut.{put_mid}
use lib.ListN.{length, take, drop, length-append, length-drop, take-append-drop}
use lib.Seq.{length-take-le, take_at, drop_at, drop-drop}
use Rattle.records.specs.Edits.{replace_at, on_part}
use Rattle.records.proofs.Edits.{part-lent}

module _ (at : ℕ) (new b : List ℕ) (h : at + length new ≤ length b) where
  front : length (take at b ++ new) ≡ at + length new
  front = length-append (take at b) new ∙ ap (λ (n : ℕ). n + length new) (length-take-le at b (omega arith))

  -- what is there, what is after it, and that there are as many bytes as before
  pub replaced-part : take (length new) (drop at (replace_at at new b)) ≡ new
  unfolding replace_at
  replaced-part = ap (take (length new)) (drop_at (take at b) _ at (length-take-le at b (omega arith))) ∙ take_at new _ (length new) refl

  pub replaced-rest : drop (at + length new) (replace_at at new b) ≡ drop (at + length new) b
  unfolding replace_at
  replaced-rest = rw (← append_assoc) (drop_at (take at b ++ new) _ (at + length new) front)

  pub replaced-length : length (replace_at at new b) ≡ length b
  unfolding replace_at
  replaced-length = rw (← append_assoc) (length-append (take at b ++ new) _ ∙ omega (arith, front, length-drop (at + length new) b))

-- bytes written over themselves
pub replaced-same : (at n : ℕ) (b : List ℕ) → at + n ≤ length b → replace_at at (take n (drop at b)) b ≡ b
unfolding replace_at
replaced-same at n b h =
    let long : length (take n (drop at b)) ≡ n = length-take-le n (drop at b) (omega (arith, length-drop at b)) in
    rw (long, ← drop-drop n at b, take-append-drop n (drop at b)) (take-append-drop at b)

-- the bytes `new` are what the loan of as many bytes leaves
pub part-written : (at n : ℕ) (new b x : List ℕ) → length new ≡ n → x ≡ new → put_mid at (at + n - at) b x ≡ replace_at at new b
unfolding replace_at on_part
part-written at n new b x l e =
    part-lent at (at + n) (λ y. new) b x (omega arith) e ∙ ap (λ (k : ℕ). take at b ++ (new ++ drop (at + k) b)) (sym l)
