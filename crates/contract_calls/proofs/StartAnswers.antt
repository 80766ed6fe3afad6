-- What start answers and leaves, by the tests of the buffer's length and of the territory. Assumes nothing.
use Rattle.std.specs.Prelude.{Result, Ok, Err}
use mathlib.Core.Path.{◌≡◌, refl, sym, ap, ◌∙◌}
use mathlib.Core.Bool.{Bool, cond}
use mathlib.Core.List.{List}
use Prim.Native.Nat.{ℕ, ◌≤◌, ◌<◌}
use native.Mathlib.Omega.{arith}
use lib.Dec.{ltb}
use lib.ListN.{length}
use borrow.Author.Tests.{lt-ltb, le-ltb, eq-eqb, ne_eqb}
use Rattle.basics.proofs.Tests.{either, lt_yes, lt_no}
use Rattle.model.specs.declared.Answer.{Answer}
use Rattle.model.specs.declared.Answer.TheVariants.{Done}
use Rattle.model.specs.Ledger.{fresh}
use Rattle.layout.specs.Offsets.{ledger_length}
use Rattle.layout.specs.Present.{bytes}
use Rattle.contract_calls.specs.Start.{start_refusal, start_answer, start_bytes, StartTests}

module _ (b : List ℕ) (territory : ℕ) where
  abbrev Started : Result Answer ℕ → List ℕ → Type 0
  Started said after = (said ≡ start_answer b territory) × (after ≡ start_bytes b territory)

  pub wrong-length : (length b ≡ ledger_length → ⊥) → Started (Err 2) b
  unfolding start_refusal start_answer start_bytes
  wrong-length n = simp (ne_eqb _ _ n) (refl, refl)

  pub wrong-territory : length b ≡ ledger_length → 1 < territory → Started (Err 6) b
  unfolding start_refusal start_answer start_bytes
  wrong-territory e h = simp (eq-eqb _ _ e, lt-ltb _ _ h) (refl, refl)

  -- the territory as it was tested
  pub refused-territory : (n : ℕ) → 1 ≤ n → length b ≡ ledger_length → n ≡ cond (ltb 1 territory) 6 0 → (after : List ℕ) → after ≡ b → Started (Err n) after
  refused-territory n some e found after same = either (ltb 1 territory)
      (λ y. rw (same, found, y) (wrong-territory e (lt_yes 1 territory y)))
      (λ k. let none : n ≡ 0 = found ∙ ap (λ (t : Bool). cond t 6 0) k in let z : ⊥ = omega arith in absurd z)

  pub taken-territory : ◌≡◌ {A = ℕ} 0 (cond (ltb 1 territory) 6 0) → territory ≤ 1
  taken-territory found = either (ltb 1 territory)
      (λ y. let some : 0 ≡ 6 = found ∙ ap (λ (t : Bool). cond t 6 0) y in let z : ⊥ = omega arith in absurd z)
      (λ k. lt_no 1 territory k)

  pub started : (after : List ℕ) → length b ≡ ledger_length → territory ≤ 1 → after ≡ bytes (fresh territory) → Started (Ok Done) after
  unfolding start_refusal start_answer start_bytes
  started after e h made = simp (eq-eqb _ _ e, le-ltb _ _ h) (refl, made)

pub start_tests : StartTests
start_tests = record {
  other_length = λ b t h. let s = wrong-length b t h in (sym s.0, sym s.1);
  no_territory = λ b t e h. let s = wrong-territory b t e h in (sym s.0, sym s.1);
  started = λ b t e h. let s = started b t (bytes (fresh t)) e h refl in (sym s.0, sym s.1);
}
