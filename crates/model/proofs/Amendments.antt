-- An amend leaves the bills that stand, and the part of each, as they were: accepted, since none ends after the original end. Assumes nothing.
use mathlib.Core.Path.{◌≡◌, refl}
use mathlib.Core.List.{List, [], ◌∷◌}
use Prim.Native.Nat.{ℕ, zero, suc}
use Rattle.basics.specs.Lists.{All}
use Rattle.basics.proofs.Lists.{all_map, total-all}
use Rattle.amounts.specs.declared.Bill.{Bill}
use Rattle.model.specs.declared.Call.{Call}
use Rattle.model.specs.Calls.{◌with◌}
use Rattle.model.specs.Rules.{Rules, refusal, unless_refused, part_of_due}
use Rattle.model.specs.Ledger.{Ledger, fresh}
use Rattle.model.specs.Sheet.{Sheet, blank, view, accept, step, due}
use Rattle.model.specs.History.{sheet_after}
use Rattle.model.specs.Amendments.{PartsKept, EveryAmendKeepsParts}
use Rattle.model.proofs.RulesLaws.{RulesLaws}
use Rattle.model.proofs.Relation.{Related}
use Rattle.model.proofs.KeepsRelation.{bills-kept}
use Rattle.model.proofs.Balance.{start, related}

module _ (R : Rules) (ok : RulesLaws R) where
  same-sheet : (s : Sheet) → PartsKept R s s
  same-sheet s = record { bills = refl; parts = all_same s.bills; dues = refl }
    where
      all_same : (bs : List Bill) → All (λ b. part_of_due R s.contracts b ≡ part_of_due R s.contracts b) bs
      all_same [] = tt
      all_same (b ∷ bs) = (refl, all_same bs)

  accepted-amend : (l : Ledger) (s : Sheet) (c end fix entry : ℕ) (book : List ℕ) → Related R l s → refusal R (view s) (Call.Amend c end fix entry with book) ≡ 0
      → PartsKept R s (accept s (Call.Amend c end fix entry with book))
  unfolding accept due
  accepted-amend l s c end fix entry book r e =
      let parts = all_map _ (λ b. part_of_due R (accept s (Call.Amend c end fix entry with book)).contracts b ≡ part_of_due R s.contracts b) (λ b q. q.part) s.bills (bills-kept R ok l s c end fix entry book r e) in
      record { bills = refl; parts = parts; dues = total-all _ _ s.bills parts }

  any-amend : (l : Ledger) (s : Sheet) (c end fix entry : ℕ) (book : List ℕ) → Related R l s → PartsKept R s (step R s (Call.Amend c end fix entry with book))
  unfolding step
  any-amend l s c end fix entry book r = go (refusal R (view s) (Call.Amend c end fix entry with book)) (accepted-amend l s c end fix entry book r)
    where
      go : (n : ℕ) → (n ≡ 0 → PartsKept R s (accept s (Call.Amend c end fix entry with book))) → PartsKept R s (unless_refused n (accept s (Call.Amend c end fix entry with book)) s)
      go zero taken = taken refl
      go (suc n) taken = same-sheet s

  pub every-amend-keeps-parts : EveryAmendKeepsParts R
  unfolding sheet_after
  every-amend-keeps-parts t o h c end fix entry book = any-amend _ _ c end fix entry book (related R ok h (fresh t) (blank t) (start R ok t))
