-- kWh spread over days: their ends, their differences and their sums. Assumes nothing.
use mathlib.Core.Path.{◌≡◌, refl, ap, ap₂, ◌∙◌}
use Prim.Native.Nat.{ℕ, zero, suc, ◌+◌, ◌-◌, ◌*◌, ◌/◌, ◌≤◌, ◌<◌, zero-le}
use native.Mathlib.Nat.{mul-le-mul_left, mul-zero, zero-mul, zero-div, div-zero, div-mul-le_self, mul-div_cancel}
use native.Mathlib.Omega.{arith}
use Rattle.std.proofs.lemmas.Nat.{le-div}
use Rattle.rates.specs.declared.Class.{Class}
use Rattle.amounts.specs.Days.{in_first, between, sum_over, sum_by_day}
use Rattle.amounts.specs.Stretches.{days_before}

-- none before the first day, all after the last, and more with each day
pub in-first-none : (k n : ℕ) → in_first k n 0 ≡ 0
unfolding in_first
in-first-none k n = simp (mul-zero, zero-div)

pub in-first-all : (k n : ℕ) → 0 < n → in_first k n n ≡ k
unfolding in_first
in-first-all k n h = mul-div_cancel k h

pub in-first-grows : (k n i j : ℕ) → i ≤ j → in_first k n i ≤ in_first k n j
unfolding in_first
in-first-grows k zero i j h = omega (arith, div-zero (k * i), div-zero (k * j))
in-first-grows k (suc n) i j h = le-div _ (k * j) (suc n) (omega arith) (omega (arith, div-mul-le_self (k * i) (suc n), mul-le-mul_left k h))

in-first-most : (k n j : ℕ) → 0 < n → j ≤ n → in_first k n j ≤ k
in-first-most k n j h l = omega (arith, in-first-grows k n j n l, in-first-all k n h)

-- any stretch, one from the first day on, one to the last, and both
pub between_ends : (k n a b : ℕ) → between k n a b ≡ in_first k n b - in_first k n a
unfolding between
between_ends k n a b = refl

pub between_first : (k n b : ℕ) → between k n 0 b ≡ in_first k n b
unfolding between
between_first k n b = omega (arith, in-first-none k n)

pub between-last : (k n a : ℕ) → 0 < n → between k n a n ≡ k - in_first k n a
unfolding between
between-last k n a h = omega (arith, in-first-all k n h)

pub between-all : (k n : ℕ) → 0 < n → between k n 0 n ≡ k
between-all k n h = between_first k n n ∙ in-first-all k n h

-- greater prices give more, the same classes the same, and no kWh nothing
sum-le : (n : ℕ) (f g : ℕ → ℕ) → ((j : ℕ) → f j ≤ g j) → sum_over n f ≤ sum_over n g
sum-le zero f g l = zero-le
sum-le (suc n) f g l = let h : f n ≤ g n = l n in omega (arith, sum-le n f g l)

sum-cong : (n : ℕ) (f g : ℕ → ℕ) → ((j : ℕ) → f j ≡ g j) → sum_over n f ≡ sum_over n g
sum-cong zero f g e = refl
sum-cong (suc n) f g e = let h : f n ≡ g n = e n in omega (arith, sum-cong n f g e)

sum-none : (n : ℕ) (f : ℕ → ℕ) → ((j : ℕ) → f j ≡ 0) → sum_over n f ≡ 0
sum-none zero f e = refl
sum-none (suc n) f e = let h : f n ≡ 0 = e n in omega (arith, sum-none n f e)

pub by-day-none : (p : Class → ℕ) (n : ℕ) (class : ℕ → Class) → sum_by_day p 0 n class ≡ 0
unfolding sum_by_day between in_first
by-day-none p n class = sum-none n _ (λ j. simp (zero-mul, zero-div))

pub by-day-le : (p q : Class → ℕ) (k n : ℕ) (class : ℕ → Class) → ((c : Class) → p c ≤ q c) → sum_by_day p k n class ≤ sum_by_day q k n class
unfolding sum_by_day
by-day-le p q k n class l = sum-le n _ _ (λ j. mul-le-mul_left (between k n j (suc j)) (l (class j)))

pub by-day-cong : (p : Class → ℕ) (k n : ℕ) (class other : ℕ → Class) → ((j : ℕ) → class j ≡ other j) → sum_by_day p k n class ≡ sum_by_day p k n other
unfolding sum_by_day
by-day-cong p k n class other e = sum-cong n _ _ (λ j. ap (λ (c : Class). between k n j (suc j) * p c) (e j))

-- the kWh before a day of the calendar: none where the bill has not begun, all where it has ended, else a quotient
pub before-first : (k n first day : ℕ) → day ≤ first → in_first k n (days_before first n day) ≡ 0
before-first k n first day h = let e : days_before first n day ≡ 0 = omega arith in ap (in_first k n) e ∙ in-first-none k n

pub after_last : (k first last day : ℕ) → first ≤ last → last < day → in_first k (suc last - first) (days_before first (suc last - first) day) ≡ k
after_last k first last day l h =
    let e : days_before first (suc last - first) day ≡ suc last - first = omega arith in
    ap (in_first k (suc last - first)) e ∙ in-first-all k (suc last - first) (omega arith)

pub inside : (k first last day : ℕ) → first ≤ last → day ≤ last → in_first k (suc last - first) (days_before first (suc last - first) day) ≡ k * (day - first) / (last - first + 1)
unfolding in_first
inside k first last day l h =
    let e : days_before first (suc last - first) day ≡ day - first = omega arith in
    let n : suc last - first ≡ last - first + 1 = omega arith in
    ap₂ (λ (j m : ℕ). k * j / m) e n

pub before-most : (k n first day : ℕ) → 0 < n → in_first k n (days_before first n day) ≤ k
before-most k n first day h = in-first-most k n (days_before first n day) h (omega arith)

pub before-grows : (k n first day later : ℕ) → day ≤ later → in_first k n (days_before first n day) ≤ in_first k n (days_before first n later)
before-grows k n first day later h = in-first-grows k n (days_before first n day) (days_before first n later) (omega arith)

pub ruleset kwh_ends = (before-first, after_last, inside, before-most)
