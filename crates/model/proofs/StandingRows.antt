-- From sums back to places: each standing bill's row stands in the ledger. Assumes nothing.
use mathlib.Core.Path.{◌≡◌, refl, ap, ap₂}
use mathlib.Core.Bool.{Bool, true, false, cond, ◌&&◌, false≢true}
use mathlib.Core.List.{List, [], ◌∷◌, Memᴰ}
use Prim.Native.Nat.{ℕ, ◌+◌, ◌<◌}
use native.Mathlib.Omega.{arith}
use lib.Dec.{eqb}
use Rattle.basics.specs.Lists.{count}
use Rattle.basics.proofs.Tests.{and_left, and_right, and_yes, eq_yes, yes-eq}
use Rattle.amounts.specs.declared.Bill.{Bill}
use Rattle.model.specs.declared.Row.{Row}
use Rattle.model.specs.Rules.{Rules, standing_row}
use Rattle.model.specs.Ledger.{Ledger}
use Rattle.model.specs.RowNumbers.{numbers_of_row, row_of_numbers}
use Rattle.model.specs.Sheet.{Sheet}
use Rattle.model.proofs.Relation.{Related}

-- two lists of the same numbers
abbrev same : List ℕ → List ℕ → Bool
same [] [] = true
same [] (n ∷ ns) = false
same (m ∷ ms) [] = false
same (m ∷ ms) (n ∷ ns) = eqb m n && same ms ns

same_refl : (ns : List ℕ) → same ns ns ≡ true
same_refl [] = refl
same_refl (n ∷ ns) = and_yes (eqb n n) _ (yes-eq n n refl) (same_refl ns)

same-path : (ms ns : List ℕ) → same ms ns ≡ true → ms ≡ ns
same-path [] [] e = refl
same-path [] (n ∷ ns) e = absurd (false≢true e)
same-path (m ∷ ms) [] e = absurd (false≢true e)
same-path (m ∷ ms) (n ∷ ns) e = ap₂ ◌∷◌ (eq_yes m n (and_left (eqb m n) _ e)) (same-path ms ns (and_right (eqb m n) _ e))

-- two rows are equal where their numbers are
pub equal : Row → Row → Bool
equal x y = same (numbers_of_row x) (numbers_of_row y)

pub equal-refl : (x : Row) → equal x x ≡ true
unfolding equal
equal-refl x = same_refl (numbers_of_row x)

pub equal-path : (x y : Row) → equal x y ≡ true → x ≡ y
unfolding equal
equal-path x y e = ap row_of_numbers (same-path (numbers_of_row x) (numbers_of_row y) e)

module _ {A : Type 0} (p : A → Bool) where
  pub counted : (a : A) (xs : List A) → Memᴰ a xs → p a ≡ true → 0 < count p xs
  counted a [] m h = elim m [ ]
  counted a (x ∷ xs) (Memᴰ.head e) h = rw (← e, h) (omega arith)
  counted a (x ∷ xs) (Memᴰ.tail m) h = let z : 0 < count p xs = counted a xs m h in omega arith

  pub placed : (xs : List A) → 0 < count p xs → (a : A) × Memᴰ a xs × (p a ≡ true)
  placed [] h = let z : ⊥ = omega arith in absurd z
  placed (x ∷ xs) h = go (p x) refl (placed xs) h
    where
      go : (b : Bool) → p x ≡ b → (0 < count p xs → (a : A) × Memᴰ a xs × (p a ≡ true)) → 0 < cond b 1 0 + count p xs → (a : A) × Memᴰ a (x ∷ xs) × (p a ≡ true)
      go true e f h = (x, Memᴰ.head refl, e)
      go false e f h = let t = f (omega arith) in (t.0, Memᴰ.tail t.1, t.2)

pub row-of-bill : (R : Rules) (l : Ledger) (s : Sheet) → Related R l s → (b : Bill) → Memᴰ b s.bills → Memᴰ (standing_row R s.contracts b) l.rows
row-of-bill R l s r b m = rw (equal-path (standing_row R s.contracts b) t.0 t.2) t.1
  where
    q : Row → Bool
    q x = equal (standing_row R s.contracts b) x

    some-bill : 0 < count (λ c. q (standing_row R s.contracts c)) s.bills
    some-bill = counted (λ c. q (standing_row R s.contracts c)) b s.bills m (equal-refl (standing_row R s.contracts b))

    t : (x : Row) × Memᴰ x l.rows × (q x ≡ true)
    t = placed q l.rows (omega (arith, some-bill, r.same (λ x. cond (q x) 1 0)))
