-- Sums over the rows of the ledger and the bills of the sheet, after each change of them. Assumes nothing.
use mathlib.Core.Path.{◌≡◌, refl}
use mathlib.Core.Bool.{Bool, cond}
use mathlib.Core.List.{List, [], ◌∷◌, map}
use Prim.Native.Nat.{ℕ, ◌+◌, ◌≤◌}
use native.Mathlib.Omega.{arith}
use Rattle.basics.specs.Lists.{total, count}
use Rattle.basics.proofs.Tests.{either}
use Rattle.basics.proofs.Lists.{total-none, total-zero}
use Rattle.amounts.specs.declared.Bill.{Bill}
use Rattle.model.specs.declared.Row.{Row}
use Rattle.model.specs.Ledger.{insert, amount_of, remove, replace, sorts_after}
use Rattle.model.specs.Sheet.{strike_out, in_place_of}

-- ---- the sheet's lists

pub total-strike : (p : Bill → Bool) (w : Bill → ℕ) (xs : List Bill) → total w (strike_out p xs) ≡ total (λ x. cond (p x) 0 (w x)) xs
total-strike p w [] = refl
total-strike p w (x ∷ xs) = either (p x) (λ e. rw e (omega (arith, total-strike p w xs))) (λ e. rw e (omega (arith, total-strike p w xs)))

pub total-swap : (p : Bill → Bool) (b : Bill) (w : Bill → ℕ) (xs : List Bill) → total w (map (in_place_of p b) xs) ≡ total (λ x. cond (p x) (w b) (w x)) xs
unfolding in_place_of
total-swap p b w [] = refl
total-swap p b w (x ∷ xs) = either (p x) (λ e. rw e (omega (arith, total-swap p b w xs))) (λ e. rw e (omega (arith, total-swap p b w xs)))

-- ---- the ledger's rows

pub total-insert : (w : Row → ℕ) (r : Row) (xs : List Row) → total w (insert r xs) ≡ w r + total w xs
total-insert w r [] = refl
total-insert w r (x ∷ xs) = either (sorts_after x.bill r.bill) (λ e. rw e) (λ e. rw e (omega (arith, total-insert w r xs)))

module _ (p : Bill → Bool) where
  abbrev on : Row → Bool
  on x = p x.bill

  -- where at most one row passes the test
  pub total-remove : (w : Row → ℕ) (xs : List Row) → count on xs ≤ 1 → total w (remove p xs) ≡ total (λ x. cond (on x) 0 (w x)) xs
  total-remove w [] h = refl
  total-remove w (x ∷ xs) h = either (p x.bill)
      (λ e. let few : 1 + count on xs ≤ 1 = rw e at h in rw e (omega (arith, total-none on (λ x. 0) w xs (omega arith))))
      (λ e. let few : 0 + count on xs ≤ 1 = rw e at h in rw e (omega (arith, total-remove w xs (omega arith))))

  pub total-replace : (w : Row → ℕ) (r : Row) (xs : List Row) → count on xs ≤ 1 → total w (replace p r xs) ≡ total (λ x. cond (on x) (w r) (w x)) xs
  total-replace w r [] h = refl
  total-replace w r (x ∷ xs) h = either (p x.bill)
      (λ e. let few : 1 + count on xs ≤ 1 = rw e at h in rw e (omega (arith, total-none on (λ x. w r) w xs (omega arith))))
      (λ e. let few : 0 + count on xs ≤ 1 = rw e at h in rw e (omega (arith, total-replace w r xs (omega arith))))

  pub amount-at : (xs : List Row) → count on xs ≤ 1 → amount_of p xs ≡ total (λ x. cond (on x) x.amount 0) xs
  amount-at [] h = refl
  amount-at (x ∷ xs) h = either (p x.bill)
      (λ e. let few : 1 + count on xs ≤ 1 = rw e at h in rw e (omega (arith, total-none on (λ x. x.amount) (λ x. 0) xs (omega arith), total-zero xs)))
      (λ e. let few : 0 + count on xs ≤ 1 = rw e at h in rw e (omega (arith, amount-at xs (omega arith))))
