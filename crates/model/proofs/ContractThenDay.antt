-- The order by contract and, where the contract is the same, by a test of days. Assumes nothing.
use mathlib.Core.Path.{◌≡◌, ◌∙◌}
use mathlib.Core.Bool.{Bool, true, ◌&&◌, ◌||◌}
use Prim.Native.Nat.{ℕ, ◌≤◌, ◌<◌}
use native.Mathlib.Omega.{arith}
use lib.Dec.{ltb, eqb}
use Rattle.basics.proofs.Tests.{either, and_left, and_right, or_yes, lt_yes, lt_no, yes_lt, eq_yes, yes-eq}

module _ (c k : ℕ) (t : Bool) where
  pub by-contract : c < k → ltb c k || (eqb c k && t) ≡ true
  by-contract h = rw (yes_lt c k h)

  pub by_day : c ≡ k → t ≡ true → ltb c k || (eqb c k && t) ≡ true
  by_day e y = either (ltb c k) (λ l. rw l) (λ l. rw (l, yes-eq c k e, y))

  pub contract-or-day : {X : Type 0} → ltb c k || (eqb c k && t) ≡ true → (c < k → X) → (c ≡ k → t ≡ true → X) → X
  contract-or-day e later same = either (ltb c k)
      (λ l. later (lt_yes c k l))
      (λ l. let g = or_yes (ltb c k) _ e l in same (eq_yes c k (and_left (eqb c k) _ g)) (and_right (eqb c k) _ g))

-- what comes after a contract and day is followed by what does, too
pub carried : (c k l : ℕ) (t u : Bool) → k ≤ l → (k ≡ l → t ≡ true → u ≡ true) → ltb c k || (eqb c k && t) ≡ true → ltb c l || (eqb c l && u) ≡ true
carried c k l t u h f e = contract-or-day c k t e
    (λ g. by-contract c l u (omega arith))
    (λ g y. either (ltb k l)
    (λ m. let n : k < l = lt_yes k l m in by-contract c l u (omega arith))
    (λ m. let n : l ≤ k = lt_no k l m in let same : k ≡ l = omega arith in by_day c l u (g ∙ same) (f same y)))
