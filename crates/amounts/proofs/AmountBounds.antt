-- A bill's amount is at most its cap; within the paper's ranges it fits 50 bits, and the rate answered is low. Assumes nothing.
use Prim.Native.Nat.{ℕ, ◌*◌, ◌^◌, ◌<◌, ◌≤◌}
use native.Mathlib.Nat.{mul-le-mul_left}
use native.Mathlib.Omega.{arith}
use Rattle.limits.specs.Limits.{highest_price, most_kwh_stored}
use Rattle.rates.specs.declared.Terms.{Terms}
use Rattle.rates.specs.declared.Fuel.{Fuel}
use Rattle.rates.specs.declared.Class.{Class}
use Rattle.rates.specs.Rates.{class_rate, certified_class}
use Rattle.rates.proofs.WithinCaps.{highest_rate, class-rate-capped, class-rate-low}
use Rattle.amounts.specs.declared.Bill.{Bill}
use Rattle.amounts.specs.Amounts.{rest_certificate, bill_at, rate_of, amount, cap, rate, Rateable}
use Rattle.amounts.proofs.Shares.{bill-le, bill-one-price}

-- no amount within the paper's ranges is higher
abbrev pub highest_amount : ℕ
highest_amount = most_kwh_stored * highest_rate

-- the rate that a bill answers
pub rate-low : (terms : Terms) (bill : Bill) → bill.supply ≤ highest_price → rate terms bill ≤ highest_rate
unfolding rate
rate-low terms bill h = class-rate-low terms.fuel (certified_class (rest_certificate terms bill) terms.kind bill.first) bill.reference bill.supply h

pub amount-capped : (terms : Terms) (bill : Bill) → amount terms bill ≤ cap terms bill
unfolding amount cap
amount-capped terms bill = bill-le _ _ terms bill (λ c. class-rate-capped terms.fuel c bill.reference bill.supply)

-- within the ranges of a row
pub amount-low : (terms : Terms) (bill : Bill) → Rateable bill → amount terms bill ≤ highest_amount
unfolding amount
amount-low terms bill ok =
    let each : bill_at (rate_of terms bill) terms bill ≤ bill_at (λ c. highest_rate) terms bill
    = bill-le _ _ terms bill (λ c. class-rate-low terms.fuel c bill.reference bill.supply ok.supply) in
    omega (arith, each, bill-one-price highest_rate terms bill ok.days ok.shares, ok.kwh)

pub amount-bits : (terms : Terms) (bill : Bill) → Rateable bill → amount terms bill < 2 ^ 50
amount-bits terms bill ok = omega (arith, amount-low terms bill ok)

-- so many kWh at the rate of a class
pub kwh_rated : (k : ℕ) (fuel : Fuel) (class : Class) (R S : ℕ) → S ≤ highest_price → k * class_rate fuel class R S ≤ 10 * highest_price * k
kwh_rated k fuel class R S h = omega (arith, mul-le-mul_left k (class-rate-low fuel class R S h))
