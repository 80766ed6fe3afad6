-- Bytes cut into parts of k bytes, and parts joined. Assumes nothing.
use mathlib.Core.Path.{◌≡◌, refl, sym, ap, ap₂, ◌∙◌}
use mathlib.Core.List.{List, [], ◌∷◌, ◌++◌, append_assoc}
use Prim.Native.Nat.{ℕ, zero, suc, ◌+◌, ◌*◌, ◌≤◌}
use native.Mathlib.Omega.{arith}
use native.Mathlib.Nat.{suc_inj, suc-ne-zero}
use lib.ListN.{length, take, drop, length-append, length-drop}
use lib.Seq.{length-take-le, take_at, drop_at, take-add}
use Rattle.fields.specs.Field.{AreBytes}
use Rattle.fields.proofs.Laws.{are-append, are-take, are-drop}
use Rattle.basics.specs.Lists.{All}
use Rattle.records.specs.Pack.{cut, join}

-- each part is of k bytes
abbrev pub Parts : ℕ → List (List ℕ) → Type 0
Parts k ps = All (λ p. length p ≡ k) ps

pub length_cut : (k n : ℕ) (b : List ℕ) → length (cut k n b) ≡ n
unfolding cut
length_cut k zero b = refl
length_cut k (suc n) b = ap suc (length_cut k n (drop k b))

pub parts_cut : (k n : ℕ) (b : List ℕ) → n * k ≤ length b → Parts k (cut k n b)
unfolding cut
parts_cut k zero b h = tt
parts_cut k (suc n) b h =
    (length-take-le k b (omega arith), parts_cut k n (drop k b) (omega (arith, length-drop k b)))

pub are-cut : (k n : ℕ) (b : List ℕ) → AreBytes b → All AreBytes (cut k n b)
unfolding cut
are-cut k zero b h = tt
are-cut k (suc n) b h = (are-take k b h, are-cut k n (drop k b) (are-drop k b h))

pub join-append : (ps qs : List (List ℕ)) → join (ps ++ qs) ≡ join ps ++ join qs
unfolding join
join-append [] qs = refl
join-append (p ∷ ps) qs = ap (λ (l : List ℕ). p ++ l) (join-append ps qs) ∙ sym (append_assoc p (join ps) (join qs))

pub length-join : (k : ℕ) (ps : List (List ℕ)) → Parts k ps → length (join ps) ≡ length ps * k
unfolding join
length-join k [] a = omega arith
length-join k (p ∷ ps) a = omega (arith, length-append p (join ps), a.0, length-join k ps a.1)

pub are-join : (ps : List (List ℕ)) → All AreBytes ps → AreBytes (join ps)
unfolding join
are-join [] a i = omega arith
are-join (p ∷ ps) a i = are-append p (join ps) a.0 (are-join ps a.1) i

-- cut and joined again
pub join-cut : (k n : ℕ) (b : List ℕ) → join (cut k n b) ≡ take (n * k) b
unfolding cut join
join-cut k zero b =
    let e : 0 * k ≡ 0 = omega arith in
    ap (λ (m : ℕ). take m b) (sym e)
join-cut k (suc n) b =
    let e : k + n * k ≡ suc n * k = omega arith in
    ap (λ (l : List ℕ). take k b ++ l) (join-cut k n (drop k b)) ∙ sym (take-add k (n * k) b) ∙ ap (λ (m : ℕ). take m b) e

-- joined and cut again
pub cut-join : (k n : ℕ) (ps : List (List ℕ)) (rest : List ℕ) → Parts k ps → length ps ≡ n → cut k n (join ps ++ rest) ≡ ps
unfolding cut join
cut-join k zero [] rest a e = refl
cut-join k zero (p ∷ ps) rest a e = absurd (suc-ne-zero (length ps) e)
cut-join k (suc n) [] rest a e = absurd (suc-ne-zero n (sym e))
cut-join k (suc n) (p ∷ ps) rest a e =
    ap (λ (l : List ℕ). take k l ∷ cut k n (drop k l)) (append_assoc p (join ps) rest)
    ∙ ap₂ (λ (h : List ℕ) (t : List (List ℕ)). h ∷ t) (take_at p (join ps ++ rest) k a.0)
    (ap (cut k n) (drop_at p (join ps ++ rest) k a.0) ∙ cut-join k n ps rest a.1 (suc_inj e))
