-- The rows of a well-formed ledger, one after the other: each is in its slot, and sums over them. Assumes nothing.
use mathlib.Core.Path.{◌≡◌, sym, ap, ◌∙◌}
use mathlib.Core.List.{List, ◌∷◌}
use Prim.Native.Nat.{ℕ, ◌+◌, ◌≤◌, ◌<◌}
use native.Mathlib.Numerals.{add-one}
use native.Mathlib.Omega.{arith}
use lib.ListN.{length, drop, get_or}
use lib.Seq.{drop-cons}
use Rattle.limits.specs.Limits.{row_count}
use Rattle.basics.specs.Lists.{total}
use Rattle.model.specs.declared.Row.{Row}
use Rattle.layout.specs.Present.{facts, row_at, Searched}
use Rattle.layout.proofs.Present.{present}
use Rattle.layout.proofs.HeldRows.{rows-most, row-held}

module _ (b : List ℕ) (rows i : ℕ) (s : Searched b rows) (h : i < rows) where
  pub row_inside : i < row_count
  row_inside = omega (arith, s.count, rows-most present b s.formed)

  pub row-there : i < length (facts b).rows
  row-there = omega (arith, s.count)

  pub row_read : (x : Row) → x ≡ row_at b i → x ≡ get_or (facts b).rows i x
  row_read x e = e ∙ row-held present b s.formed i x row-there

-- ---- sums

-- s is the sum over the rows before place i
pub record SummedTo (w : Row → ℕ) (xs : List Row) (i s : ℕ) : Type 0 where
  pub sum : s + total w (drop i xs) ≡ total w xs

module _ {w : Row → ℕ} {xs : List Row} {i s : ℕ} (t : SummedTo w xs i s) where
  -- with row x, which is at place i
  pub summed-next : (x d : Row) → i < length xs → x ≡ get_or xs i d → SummedTo w xs (i + 1) (s + w x)
  summed-next x d h e =
      let rest : total w (drop i xs) ≡ w x + total w (drop (i + 1) xs) =
      ap (total w) (drop-cons xs i d h ∙ ap (λ (n : ℕ). get_or xs i d ∷ drop n xs) (sym (add-one i))) ∙ ap (λ (y : Row). w y + total w (drop (i + 1) xs)) (sym e) in
      record { sum = omega (arith, t.sum) }

  pub summed-most : s ≤ total w xs
  summed-most = omega (arith, t.sum)
