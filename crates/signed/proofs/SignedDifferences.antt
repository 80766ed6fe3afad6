-- The difference of two numbers below 2^62 as a signed number of 64 bits. Assumes nothing.
use mathlib.Core.Path.{◌≡◌, sym, ap₂, ◌∙◌, subst}
use Prim.Native.Nat.{ℕ, ◌<◌, ◌≤◌, ◌^◌}
use native.Mathlib.Omega.{arith}
use lib.Dec.{ltb}
use lib.IntN.{ℤ, sub_ℕ, ◌-ℤ◌}
use mir.Syntax.{w64}
use mir.Val.{SFits, to_z, of_z}
use mir.ValLaws.{to_z_pos, to_z-of_z}
use Rattle.basics.proofs.Tests.{either, lt_yes, lt_no}
use Rattle.basics.proofs.Integers.{sub-ge, sub-lt, sub-pos}

-- a signed number that fits is read back from its bits
pub signed-read : (r z : ℤ) → SFits w64 r → r ≡ z → to_z w64 (of_z w64 r) ≡ z
signed-read r z f e = to_z-of_z w64 r f ∙ e

module _ (a b : ℕ) (h : a < 2 ^ 62) (k : b < 2 ^ 62) where
  pub difference-fits : SFits w64 (sub_ℕ a b)
  difference-fits = either (ltb a b)
      (λ e. let l : a < b = lt_yes a b e in rw (sub-lt a b l) (record { sfits = omega arith }))
      (λ e. let l : b ≤ a = lt_no a b e in rw (sub-ge a b l) (record { sfits = omega arith }))

  -- the difference of the two read as signed
  same : to_z w64 a -ℤ to_z w64 b ≡ sub_ℕ a b
  same = ap₂ ◌-ℤ◌ (to_z_pos w64 a (omega arith)) (to_z_pos w64 b (omega arith)) ∙ sym (sub-pos a b)

  pub signed-difference-fits : SFits w64 (to_z w64 a -ℤ to_z w64 b)
  signed-difference-fits = subst (SFits w64) (sym same) difference-fits

  pub signed-difference : to_z w64 (of_z w64 (to_z w64 a -ℤ to_z w64 b)) ≡ sub_ℕ a b
  signed-difference = signed-read (to_z w64 a -ℤ to_z w64 b) (sub_ℕ a b) signed-difference-fits same
