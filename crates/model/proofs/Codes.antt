-- The numbers of a contract that keeps the ranges are those that it was made from. Assumes nothing.
use Rattle.std.specs.Prelude.{Option, Some, None}
use mathlib.Core.Path.{◌≡◌, refl, sym}
use mathlib.Core.Logic.{◌≢◌}
use mathlib.Core.Bool.{Bool, true, false, not, cond, ◌&&◌, ◌||◌, true≢false}
use Prim.Native.Nat.{ℕ, ◌≤◌}
use native.Mathlib.Omega.{arith}
use lib.Dec.{ltb, eqb}
use Rattle.limits.specs.Limits.{last_day}
use Rattle.basics.proofs.Tests.{either, eq_yes, eq_no, not-no, and_left, and_right, and_no, or-no-left, or-no-right, no-not, lt_no}
use Rattle.rates.specs.declared.Fuel.{Fuel}
use Rattle.rates.specs.declared.Fuel.TheVariants.{Electricity, Gas}
use Rattle.rates.specs.declared.Kind.{Kind}
use Rattle.rates.specs.declared.Kind.TheVariants.{Fixed, Variable, Flexible, Index}
use Rattle.rates.specs.declared.Certificate.{Certificate}
use Rattle.rates.specs.declared.Certificate.TheVariants as certificate
use Rattle.rates.specs.declared.Certificate.TheVariants.{Etii, Qhs}
use Rattle.rates.specs.declared.Amendment.{Amendment}
use Rattle.model.specs.Codes.{fuel_of, fuel_code, kind_of, kind_code, price_fix_day_of, entry_day_of, certificate_of, class_code, effective_day_of, is_fixed, amendment_with, amendment_of, amendment_flag_of, original_end_day_of, amended_price_fix_day_of, amended_entry_day_of, is_amended}
use Rattle.model.specs.PresentRules.{bad_days, bad_effective, bad_amendment_days, bad_amendment}

-- ---- from numbers and back

pub fuel-code : (fuel : ℕ) → fuel ≤ 1 → fuel_code (fuel_of fuel) ≡ fuel
fuel-code fuel h = either (eqb fuel 0)
    (λ e. rw e (sym (eq_yes fuel 0 e)))
    (λ e. let n : fuel ≢ 0 = eq_no fuel 0 e in rw e (omega arith))

pub kind-code : (kind fix entry : ℕ) → kind ≤ 3 → kind_code (kind_of kind fix entry) ≡ kind
kind-code kind fix entry h = either (eqb kind 0) (λ e. rw e (sym (eq_yes kind 0 e))) (λ e.
    let n0 : kind ≢ 0 = eq_no kind 0 e in
    either (eqb kind 1) (λ f. rw (e, f) (sym (eq_yes kind 1 f))) (λ f.
    let n1 : kind ≢ 1 = eq_no kind 1 f in
    either (eqb kind 2) (λ g. rw (e, f, g) (sym (eq_yes kind 2 g))) (λ g. let n2 : kind ≢ 2 = eq_no kind 2 g in rw (e, f, g) (omega arith))))

-- the days of a kind that is not fixed are zeros
zero-days : (kind fix entry : ℕ) → bad_days kind fix entry ≡ false → eqb kind 0 ≡ false → (fix ≡ 0) × (entry ≡ 0)
unfolding bad_days
zero-days kind fix entry e f =
    let g = not-no _ (and_no (not (eqb kind 0)) _ (or-no-right (ltb last_day entry) _ (or-no-right (ltb last_day fix) _ e)) (no-not _ f)) in
    (eq_yes fix 0 (and_left (eqb fix 0) _ g), eq_yes entry 0 (and_right (eqb fix 0) _ g))

-- what a kind that is not fixed says of its days
other-days : (kind fix entry : ℕ) → eqb kind 0 ≡ false → (price_fix_day_of (kind_of kind fix entry) ≡ 0) × (entry_day_of (kind_of kind fix entry) ≡ 0)
other-days kind fix entry e = rw e (go (eqb kind 1) (eqb kind 2))
  where
    go : (x y : Bool) → (price_fix_day_of (cond x Variable (cond y Flexible Index)) ≡ 0) × (entry_day_of (cond x Variable (cond y Flexible Index)) ≡ 0)
    go true y = (refl, refl)
    go false true = (refl, refl)
    go false false = (refl, refl)

pub kind-days : (kind fix entry : ℕ) → bad_days kind fix entry ≡ false → (price_fix_day_of (kind_of kind fix entry) ≡ fix) × (entry_day_of (kind_of kind fix entry) ≡ entry)
kind-days kind fix entry h = either (eqb kind 0)
    (λ e. rw e (refl, refl))
    (λ e. let z = zero-days kind fix entry h e in let o = other-days kind fix entry e in (cc, cc))

pub class-code : (class effective : ℕ) → class ≤ 2 → class_code (certificate_of class effective) ≡ class
class-code class effective h = either (eqb class 1) (λ e. rw e (sym (eq_yes class 1 e))) (λ e.
    let n1 : class ≢ 1 = eq_no class 1 e in
    either (eqb class 2) (λ f. rw (e, f) (sym (eq_yes class 2 f))) (λ f. let n2 : class ≢ 2 = eq_no class 2 f in rw (e, f) (omega arith)))

pub class-day : (class effective : ℕ) → class ≤ 2 → bad_effective class effective ≡ false → effective_day_of (certificate_of class effective) ≡ effective
unfolding bad_effective
class-day class effective h b = either (eqb class 1) (λ e. rw e) (λ e. either (eqb class 2) (λ f. rw (e, f)) (λ f. rw (e, f) (sym (zero-day e f))))
  where
    zero-day : eqb class 1 ≡ false → eqb class 2 ≡ false → effective ≡ 0
    zero-day e f =
        let n1 : class ≢ 1 = eq_no class 1 e in
        let n2 : class ≢ 2 = eq_no class 2 f in
        let z : class ≡ 0 = omega arith in
        eq_yes effective 0 (not-no _ (rw z at b))

-- an amendment's four numbers
pub record AmendmentNumbers (a : Option Amendment) (flag end fix entry : ℕ) : Type 0 where
  pub flags : amendment_flag_of a ≡ flag
  pub ends : original_end_day_of a ≡ end
  pub fixes : amended_price_fix_day_of a ≡ fix
  pub enters : amended_entry_day_of a ≡ entry

pub amendment-numbers : (kind flag end fix entry : ℕ) → bad_amendment kind flag end fix entry ≡ false → AmendmentNumbers (amendment_of flag end fix entry) flag end fix entry
unfolding bad_amendment
amendment-numbers kind flag end fix entry h = go (eqb flag 0) refl h
  where
    go : (b : Bool) → eqb flag 0 ≡ b → cond b (not (eqb end 0 && (eqb fix 0 && eqb entry 0))) (ltb 1 flag || (not (eqb kind 0) || bad_amendment_days end fix entry)) ≡ false
        → AmendmentNumbers (cond b None (Some (amendment_with end fix entry))) flag end fix entry
    go true e h =
        let zeros = not-no _ h in
        let days = and_right (eqb end 0) _ zeros in
        record {
          flags = sym (eq_yes flag 0 e);
          ends = sym (eq_yes end 0 (and_left (eqb end 0) _ zeros));
          fixes = sym (eq_yes fix 0 (and_left (eqb fix 0) _ days));
          enters = sym (eq_yes entry 0 (and_right (eqb fix 0) _ days));
        }
    go false e h =
        let some : flag ≢ 0 = eq_no flag 0 e in
        let low : flag ≤ 1 = lt_no 1 flag (or-no-left (ltb 1 flag) _ h) in
        record { flags = omega arith; ends = refl; fixes = refl; enters = refl }

-- ---- from values and back

pub fuel-of-code : (fuel : Fuel) → fuel_of (fuel_code fuel) ≡ fuel
fuel-of-code Electricity = refl
fuel-of-code Gas = refl

pub kind-of-code : (kind : Kind) → kind_of (kind_code kind) (price_fix_day_of kind) (entry_day_of kind) ≡ kind
kind-of-code (Fixed fix entry) = refl
kind-of-code Variable = refl
kind-of-code Flexible = refl
kind-of-code Index = refl

pub certificate-of-code : (certificate : Certificate) → certificate_of (class_code certificate) (effective_day_of certificate) ≡ certificate
certificate-of-code certificate.None = refl
certificate-of-code (Etii effective) = refl
certificate-of-code (Qhs effective) = refl

pub amendment-of-numbers : (amendment : Option Amendment) → amendment_of (amendment_flag_of amendment) (original_end_day_of amendment) (amended_price_fix_day_of amendment) (amended_entry_day_of amendment) ≡ amendment
amendment-of-numbers None = refl
amendment-of-numbers (Some amendment) = refl

-- ---- fixed kinds, and contracts that aren't amended

pub fixed-code : (kind : Kind) → is_fixed kind ≡ true → kind_code kind ≡ 0
fixed-code (Fixed fix entry) e = refl
fixed-code Variable e = absurd (true≢false (sym e))
fixed-code Flexible e = absurd (true≢false (sym e))
fixed-code Index e = absurd (true≢false (sym e))

pub not-amended : (amendment : Option Amendment) → is_amended amendment ≡ false → amendment ≡ None
not-amended None e = refl
not-amended (Some amendment) e = absurd (true≢false e)
