-- A call's outcome: what holds of it accepted and of it turned down. Assumes nothing.
use mathlib.Core.Path.{◌≡◌, refl}
use Prim.Native.Nat.{ℕ, zero, suc}
use Rattle.model.specs.Calls.{CallWithBook}
use Rattle.model.specs.Rules.{Rules, refusal, unless_refused}
use Rattle.model.specs.Ledger.{Ledger, Outcome, outcome_turned_down, view, accept, outcome}

pub either-outcome : (R : Rules) (l : Ledger) (c : CallWithBook) (P : Outcome → Type 0) → (refusal R (view l) c ≡ 0 → P (accept R l c))
    → ((n : ℕ) → refusal R (view l) c ≡ suc n → P (outcome_turned_down l (suc n))) → P (outcome R l c)
unfolding outcome
either-outcome R l c P taken refused = go (refusal R (view l) c) taken refused
  where
    go : (n : ℕ) → (n ≡ 0 → P (accept R l c)) → ((m : ℕ) → n ≡ suc m → P (outcome_turned_down l (suc m))) → P (unless_refused n (accept R l c) (outcome_turned_down l n))
    go zero taken refused = taken refl
    go (suc n) taken refused = refused n refl
