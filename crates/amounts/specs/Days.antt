-- Document 02, paper 3, "Certificates that begin inside a bill": kWh spread over days, each day's at the price of its class. The days of a
-- bill are counted from 0. Assumes nothing.
use Rattle.std.specs.Prelude.{ℕ, zero, suc, ◌+◌, ◌-◌, ◌*◌, ◌/◌}
use Rattle.rates.specs.declared.Class.{Class}

-- "A bill of n days and k kWh has floor(k × j / n) kWh in its first j days"
unfoldable pub in_first : (k n j : ℕ) → ℕ
in_first k n j = k * j / n

-- the kWh from day a until day b: "the difference between its two ends"
unfoldable pub between : (k n a b : ℕ) → ℕ
between k n a b = in_first k n b - in_first k n a

-- the sum of f over the first n days
abbrev pub sum_over : ℕ → (ℕ → ℕ) → ℕ
sum_over zero f = 0
sum_over (suc n) f = sum_over n f + f n

-- k kWh spread over n days: the sum over the days of the day's kWh times the price of the day's class
unfoldable pub sum_by_day : (price : Class → ℕ) → (k n : ℕ) → (class : ℕ → Class) → ℕ
sum_by_day price k n class = sum_over n (λ j. between k n j (suc j) * price (class j))
