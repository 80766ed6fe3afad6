-- What holds of every history of a machine holds of those of another that does the same, as of the ledger and its bytes. Assumes nothing.
use Rattle.std.specs.Prelude.{Result}
use mathlib.Core.Path.{◌≡◌, refl, sym, ap, ◌∙◌, subst, subst₃}
use mathlib.Core.List.{List, [], ◌∷◌}
use Prim.Native.Nat.{ℕ, ◌≤◌}
use Rattle.model.specs.declared.Answer.{Answer}
use Rattle.model.specs.Calls.{CallWithBook}
use Rattle.model.specs.Ledger.{Ledger}
use Rattle.model.specs.History.{run, replies, Machine, state_after, answers_to}

-- m does what n does: on its good states, which every call keeps, it reads as n, answers as n and holds n's facts
pub record Refines (m n : Machine) : Type 1 where
  pub good : m.State → Type 0
  pub read : m.State → n.State
  pub start-good : (t : ℕ) → t ≤ 1 → good (m.start t)
  pub start-read : (t : ℕ) → t ≤ 1 → read (m.start t) ≡ n.start t
  pub keeps : (b : m.State) (c : CallWithBook) → good b → good (m.step b c)
  pub steps : (b : m.State) (c : CallWithBook) → good b → read (m.step b c) ≡ n.step (read b) c
  pub says : (b : m.State) (c : CallWithBook) → good b → m.answer b c ≡ n.answer (read b) c
  pub holds : (b : m.State) → good b → m.facts b ≡ n.facts (read b)

module _ (m n : Machine) (f : Refines m n) where
  pub good-run : (h : List CallWithBook) (b : m.State) → f.good b → f.good (run m.step b h)
  good-run [] b g = g
  good-run (c ∷ h) b g = good-run h (m.step b c) (f.keeps b c g)

  read-run : (h : List CallWithBook) (b : m.State) → f.good b → f.read (run m.step b h) ≡ run n.step (f.read b) h
  read-run [] b g = refl
  read-run (c ∷ h) b g = read-run h (m.step b c) (f.keeps b c g) ∙ ap (λ (l : n.State). run n.step l h) (f.steps b c g)

  says-run : (h : List CallWithBook) (b : m.State) → f.good b → replies m.step m.answer b h ≡ replies n.step n.answer (f.read b) h
  says-run [] b g = refl
  says-run (c ∷ h) b g = λ i. f.says b c g i ∷ (says-run h (m.step b c) (f.keeps b c g) ∙ ap (λ (l : n.State). replies n.step n.answer l h) (f.steps b c g)) i

  -- whatever holds of the answers to a list of calls from a good state on, of the answer to a call made next and of the facts then held
  pub carry-from : (P : List (Result Answer ℕ) → Result Answer ℕ → Ledger → Type 0) (c : CallWithBook) (h : List CallWithBook) (b : m.State) → f.good b
      → P (replies n.step n.answer (f.read b) h) (n.answer (run n.step (f.read b) h) c) (n.facts (run n.step (f.read b) h))
      → P (replies m.step m.answer b h) (m.answer (run m.step b h) c) (m.facts (run m.step b h))
  carry-from P c h b g = subst₃ P (sym (says-run h b g)) (sym (same_answer ∙ ap (λ (l : n.State). n.answer l c) (read-run h b g))) (sym (same-facts ∙ ap n.facts (read-run h b g)))
    where
      same_answer : m.answer (run m.step b h) c ≡ n.answer (f.read (run m.step b h)) c
      same_answer = f.says (run m.step b h) c (good-run h b g)

      same-facts : m.facts (run m.step b h) ≡ n.facts (f.read (run m.step b h))
      same-facts = f.holds (run m.step b h) (good-run h b g)

  module _ (t : ℕ) (o : t ≤ 1) (h : List CallWithBook) where
    -- no state that a history reaches is bad
    pub good-after : f.good (state_after m t h)
    unfolding state_after
    good-after = good-run h (m.start t) (f.start-good t o)

    pub same-answers : answers_to m t h ≡ answers_to n t h
    unfolding answers_to
    same-answers = says-run h (m.start t) (f.start-good t o) ∙ ap (λ (l : n.State). replies n.step n.answer l h) (f.start-read t o)

    -- the same of a history
    pub carry : (P : List (Result Answer ℕ) → Result Answer ℕ → Ledger → Type 0) (c : CallWithBook)
        → P (answers_to n t h) (n.answer (state_after n t h) c) (n.facts (state_after n t h))
        → P (answers_to m t h) (m.answer (state_after m t h) c) (m.facts (state_after m t h))
    unfolding answers_to state_after
    carry P c p = carry-from P c h (m.start t) (f.start-good t o)
        (subst (λ (l : n.State). P (replies n.step n.answer l h) (n.answer (run n.step l h) c) (n.facts (run n.step l h))) (sym (f.start-read t o)) p)
