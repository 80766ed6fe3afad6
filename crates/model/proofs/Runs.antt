-- Two machines run over the same inputs: a relation that each input keeps holds after any list, and a quantity that each input changes by
-- what is answered is changed by the sum of the answers. Over any types of state, input and answer, and from any related start. Assumes nothing.
use mathlib.Core.Path.{◌≡◌, sym, ap, ◌∙◌}
use mathlib.Core.List.{List, [], ◌∷◌}
use lib.IntN.{ℤ, ◌+ℤ◌, +ℤ_assoc, +ℤ_idr}
use Rattle.basics.specs.Integers.{sumℤ}
use Rattle.model.specs.History.{run, replies}

module _ {L S C A : Type 0} (step : L → C → L) (answer : L → C → A) (step_sheet : S → C → S) (R : L → S → Type 0) (keep : (l : L) (s : S) (c : C) → R l s → R (step l c) (step_sheet s c)) where
  pub simulates : (h : List C) (l : L) (s : S) → R l s → R (run step l h) (run step_sheet s h)
  simulates [] l s r = r
  simulates (c ∷ h) l s r = simulates h (step l c) (step_sheet s c) (keep l s c r)

  pub conserves : (q : L → ℤ) (δ : A → ℤ) → ((l : L) (s : S) (c : C) → R l s → q (step l c) ≡ q l +ℤ δ (answer l c)) → (h : List C) (l : L) (s : S) → R l s → q (run step l h) ≡ q l +ℤ sumℤ δ (replies step answer l h)
  conserves q δ law [] l s r = sym (+ℤ_idr (q l))
  conserves q δ law (c ∷ h) l s r =
      conserves q δ law h (step l c) (step_sheet s c) (keep l s c r) ∙ ap (λ (z : ℤ). z +ℤ sumℤ δ (replies step answer (step l c) h)) (law l s c r)
      ∙ +ℤ_assoc (q l) (δ (answer l c)) (sumℤ δ (replies step answer (step l c) h))
