-- The differences telescope, so days of one class may be taken together. Assumes nothing.
use mathlib.Core.Path.{◌≡◌, refl, sym, ap, subst, ◌∙◌}
use mathlib.Core.List.{List, [], ◌∷◌}
use Prim.Native.Nat.{ℕ, zero, suc, ◌+◌, ◌-◌, ◌*◌, ◌≤◌, ◌<◌, zero-le}
use native.Mathlib.Nat.{add-mul, add-zero, add-suc}
use native.Mathlib.Omega.{arith}
use Rattle.rates.specs.declared.Class.{Class}
use Rattle.rates.specs.declared.Class.TheVariants.{Baseline}
use Rattle.amounts.specs.Days.{in_first, between, sum_over, sum_by_day}
use Rattle.amounts.specs.Stretches.{Stretch, stretch, Cut, by_stretch}
use Rattle.amounts.proofs.Days.{in-first-grows, between-all}

-- a difference of two ends, at a price
ends : (k n a b p : ℕ) → a ≤ b → between k n a b * p + in_first k n a * p ≡ in_first k n b * p
unfolding between
ends k n a b p h =
    let g : in_first k n a ≤ in_first k n b = in-first-grows k n a b h in
    let e : in_first k n b - in_first k n a + in_first k n a ≡ in_first k n b = omega arith in
    sym (add-mul _ _ p) ∙ ap (λ (x : ℕ). x * p) e

module _ (price : Class → ℕ) (k n : ℕ) (class : ℕ → Class) where
  -- a day's kWh at the price of its class
  abbrev day : ℕ → ℕ
  day j = between k n j (suc j) * price (class j)

  -- a run of m days of one class from day a on gets the difference between its two ends
  run : (c : Class) (a m : ℕ) → ((j : ℕ) → a ≤ j → j < a + m → class j ≡ c) → sum_over (a + m) day ≡ sum_over a day + between k n a (a + m) * price c
  run c a zero one = rw add-zero (omega (arith, ends k n a a (price c) (omega arith)))
  run c a (suc m) one =
      let before : sum_over (a + m) day ≡ sum_over a day + between k n a (a + m) * price c = run c a m (λ j l h. one j l (omega arith)) in
      let last : day (a + m) ≡ between k n (a + m) (suc (a + m)) * price c = ap (λ (x : Class). between k n (a + m) (suc (a + m)) * price x) (one (a + m) (omega arith) (omega arith)) in
      rw add-suc
      (omega (
        arith,
        ends k n a (a + m) (price c) (omega arith),
        ends k n (a + m) (suc (a + m)) (price c) (omega arith),
        ends k n a (suc (a + m)) (price c) (omega arith),
      ))

  from : (a : ℕ) (ss : List Stretch) → Cut n class a ss → sum_over n day ≡ sum_over a day + by_stretch price k n a ss
  from a [] cut = rw cut (omega arith)
  from a (s ∷ ss) cut =
      let m : a + (s.end - a) ≡ s.end = omega (arith, cut.0) in
      let first : sum_over s.end day ≡ sum_over a day + between k n a s.end * price s.class =
      subst (λ (b : ℕ). ((j : ℕ) → a ≤ j → j < b → class j ≡ s.class) → sum_over b day ≡ sum_over a day + between k n a b * price s.class) m (run s.class a (s.end - a)) cut.1
      in
      omega (arith, from s.end ss cut.2)

pub sum-over-stretches : (price : Class → ℕ) (k n : ℕ) (class : ℕ → Class) (ss : List Stretch) → Cut n class 0 ss → sum_by_day price k n class ≡ by_stretch price k n 0 ss
unfolding sum_by_day
sum-over-stretches price k n class ss cut = omega (arith, from price k n class 0 ss cut)

-- days of one class, and one price for every class
pub one_class : (price : Class → ℕ) (k n : ℕ) (class : ℕ → Class) (c : Class) → 0 < n → ((j : ℕ) → j < n → class j ≡ c) → sum_by_day price k n class ≡ k * price c
one_class price k n class c h one =
    let all : between k n 0 n * price c ≡ k * price c = ap (λ (x : ℕ). x * price c) (between-all k n h) in
    omega (arith, sum-over-stretches price k n class (stretch c n ∷ []) (zero-le, (λ j l m. one j m), refl))

pub one-price : (p k n : ℕ) (class : ℕ → Class) → 0 < n → sum_by_day (λ c. p) k n class ≡ k * p
unfolding sum_by_day
one-price p k n class h = one_class (λ c. p) k n (λ j. Baseline) Baseline h (λ j l. refl)
