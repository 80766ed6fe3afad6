-- Texts written into a buffer, one after the other. Assumes nothing.
use Rattle.std.proofs.Common.{◌≡◌, ℕ, ◌+◌, ◌-◌, ◌≤◌, List, [], ◌++◌, length, take, drop, refl, sym, ap, ◌∙◌, arith, append_assoc, append-nil, length-append, add-zero}
use Rattle.std.proofs.lemmas.List.{drop-drop}
use Rattle.std.proofs.lemmas.Slice.{take-put_mid, drop-put_mid}
use borrow.Rule.Slice.PartMut.{put_mid}
use Rattle.text.specs.Lines.{Wrote, WroteWithin}

pub wrote_none : (d : List ℕ) (at : ℕ) → Wrote d d at at []
wrote_none d at = record { reached = sym (add-zero at); front = sym (append-nil (take at d)); rest = refl }

-- what is as it was from r on is so from any later place on
rest-later : (d e : List ℕ) (r n q : ℕ) → q ≡ r + n → drop r e ≡ drop r d → drop q e ≡ drop q d
rest-later d e r n q p h = rw (p, ← drop-drop n r e, ← drop-drop n r d, h)

pub wrote_then : {d e f : List ℕ} {at r q : ℕ} {xs ys : List ℕ} → Wrote d e at r xs → Wrote e f r q ys → Wrote d f at q (xs ++ ys)
wrote_then {d} {e} {f} {at} {r} {q} {xs} {ys} v w = record {
  reached = omega (arith, v.reached, w.reached, length-append xs ys);
  front = w.front ∙ rw v.front (append_assoc (take at d) xs ys);
  rest = w.rest ∙ rest-later d e r (length ys) q w.reached v.rest;
}

-- the same text up to the same place, named otherwise
pub wrote-same : {d e : List ℕ} {at r q : ℕ} {xs ys : List ℕ} → Wrote d e at r xs → r ≡ q → xs ≡ ys → Wrote d e at q ys
wrote-same {d} {e} {at} {r} {q} {xs} {ys} w p h = record {
  reached = sym p ∙ (w.reached ∙ ap (λ (l : List ℕ). at + length l) h);
  front = rw (← p, ← h) w.front;
  rest = rw (← p) w.rest;
}

-- a text of n bytes that is copied to its place, within a room
pub copied-within : {room : ℕ} (d : List ℕ) (at n : ℕ) {text copy : List ℕ} → n ≡ length text → copy ≡ text → at + n ≤ length d → n ≤ room → WroteWithin room d (put_mid at (at + n - at) d copy) at (at + n) text
copied-within d at n {text} e q h r = rw q (record {
  wrote = record {
    reached = omega arith;
    front = take-put_mid at (at + n - at) d text (at + n) (omega arith) (omega arith);
    rest = drop-put_mid at (at + n - at) d text (at + n) (omega arith) (omega arith) (omega arith);
  };
  within = omega arith;
})
