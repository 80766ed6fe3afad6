-- Document 01, "Calls": start (territory), a fresh ledger over a buffer of any contents. Assumes nothing.
use Rattle.std.specs.Prelude.{◌≡◌, not, List, [], ◌∷◌, ℕ, zero, suc, ◌≤◌, ◌<◌, ltb, eqb, length, Result, Ok, Err}
use Rattle.model.specs.declared.Answer.{Answer}
use Rattle.model.specs.declared.Answer.TheVariants.{Done}
use Rattle.model.specs.Calls.{◌if◌, first_of}
use Rattle.model.specs.Ledger.{fresh}
use Rattle.model.specs.Rules.{unless_refused}
use Rattle.layout.specs.Offsets.{ledger_length}
use Rattle.layout.specs.Present.{bytes}

-- the number that turns a start down: 2, the buffer isn't of a ledger's length; 6, the territory code has no meaning
unfoldable pub start_refusal : List ℕ → (territory : ℕ) → ℕ
start_refusal b territory = first_of ((2 if not (eqb (length b) ledger_length)) ∷ (6 if ltb 1 territory) ∷ [])

-- the answer of a call that answers no numbers, by the number that turns it down
abbrev pub done_unless_refused : ℕ → Result Answer ℕ
done_unless_refused zero = Ok Done
done_unless_refused (suc n) = Err (suc n)

unfoldable pub start_answer : List ℕ → (territory : ℕ) → Result Answer ℕ
start_answer b territory = done_unless_refused (start_refusal b territory)

-- the bytes left: a fresh ledger, with which a history begins, or the buffer as it was
unfoldable pub start_bytes : List ℕ → (territory : ℕ) → List ℕ
start_bytes b territory = unless_refused (start_refusal b territory) (bytes (fresh territory)) b

-- what that says of any buffer and territory
pub record StartTests : Type 0 where
  pub other_length : (b : List ℕ) (territory : ℕ) → (length b ≡ ledger_length → ⊥) → (start_answer b territory ≡ Err 2) × (start_bytes b territory ≡ b)
  pub no_territory : (b : List ℕ) (territory : ℕ) → length b ≡ ledger_length → 1 < territory → (start_answer b territory ≡ Err 6) × (start_bytes b territory ≡ b)
  pub started : (b : List ℕ) (territory : ℕ) → length b ≡ ledger_length → territory ≤ 1 → (start_answer b territory ≡ Ok Done) × (start_bytes b territory ≡ bytes (fresh territory))
