-- What claim, report and total answer and leave, by what the ledger's sum and header are. Assumes nothing.
use Rattle.std.specs.Prelude.{Ok, Err}
use mathlib.Core.Path.{◌≡◌, refl, sym, ap, ◌∙◌}
use mathlib.Core.Bool.{cond}
use mathlib.Core.List.{List, [], ◌∷◌}
use Prim.Native.Nat.{ℕ, ◌+◌, ◌*◌, ◌/◌, ◌%◌, ◌≤◌, ◌<◌, ◌^◌}
use native.Mathlib.Numerals.{add-one}
use native.Mathlib.Omega.{arith}
use lib.Dec.{leb}
use lib.IntN.{ℤ, sub_ℕ}
use Rattle.limits.specs.Limits.{row_count, most_claims, ticks_per_penny}
use Rattle.refusals.specs.declared.Refusal.{Refusal}
use Rattle.refusals.specs.Numbers.{number_of}
use Rattle.fields.specs.Fields.{Fit}
use Rattle.records.specs.Pack.{pack}
use Rattle.records.specs.Edits.{replace_at}
use Rattle.amounts.proofs.AmountBounds.{highest_amount}
use Rattle.model.specs.declared.Answer.{Answer}
use Rattle.model.specs.declared.Answer.TheVariants.{Claimed, Totalled}
use Rattle.model.specs.declared.Call.{Call}
use Rattle.model.specs.Calls.{◌with◌, first_of}
use Rattle.model.specs.Rules.{refusal}
use Rattle.model.specs.PresentRules.{tests, open_tests}
use Rattle.model.specs.Ledger.{view, accept}
use Rattle.model.proofs.RowBounds.{due-low}
use Rattle.layout.specs.Layout.{territory_in, claims_in, pence_in, ledger_of}
use Rattle.layout.specs.Present.{rules, layout, facts, Searched}
use Rattle.layout.proofs.Present.{present, facts-kept, repacked}
use Rattle.edits.proofs.PackedChanges.{written-header}
use Rattle.ledger.specs.Answered.{view_of, Summed, AnsweredWithAnyBook}
use Rattle.ledger.proofs.Refusals.{refused-answered, accepted-answered}

module _ (b : List ℕ) (rows due : ℕ) (s : Summed b rows due) where
  highest-due : due ≤ row_count * highest_amount
  highest-due = omega (arith, s.total, due-low (facts-kept b s.searched.formed) present.rules)

  -- ---- claim

  pub claim-refused : (claims : ℕ) → claims ≡ claims_in rules layout b → (r : Refusal) → number_of r ≡ cond (leb most_claims claims) 13 0 → AnsweredWithAnyBook b Call.Claim (Err r) b
  unfolding refusal tests view ledger_of
  claim-refused claims e r f book = refused-answered b (Call.Claim with book) r s.searched.formed (f ∙ ap (λ (n : ℕ). cond (leb most_claims n) 13 0) e)

  -- the header that is written, and the pence claimed by then and before
  pub header-fits : (territory claims : ℕ) → territory ≡ territory_in rules layout b → claims < most_claims → Fit layout.header (territory ∷ (claims + 1) ∷ (due / ticks_per_penny) ∷ [])
  unfolding ledger_of
  header-fits territory claims e h = (omega (arith, (facts-kept b s.searched.formed).territory), (omega arith, (omega (arith, highest-due), tt)))

  pub pence-due-low : due / ticks_per_penny < 2 ^ 62
  pence-due-low = omega (arith, highest-due)

  pub pence-low : (before : ℕ) → before ≡ pence_in rules layout b → before < 2 ^ 62
  unfolding ledger_of
  pence-low before e = omega (arith, (facts-kept b s.searched.formed).pence)

  pub claim-answered : (territory claims before : ℕ) (change : ℤ) (after : List ℕ)
      → territory ≡ territory_in rules layout b → claims ≡ claims_in rules layout b → before ≡ pence_in rules layout b → ◌≡◌ {A = ℕ} 0 (cond (leb most_claims claims) 13 0)
      → change ≡ sub_ℕ (due / ticks_per_penny) before → after ≡ replace_at 0 (pack layout.header (territory ∷ (claims + 1) ∷ (due / ticks_per_penny) ∷ [])) b
      → AnsweredWithAnyBook b Call.Claim (Ok (Claimed change (due % ticks_per_penny))) after
  unfolding refusal tests view accept ledger_of
  claim-answered territory claims before change after t e p low net put book =
      accepted-answered b (Call.Claim with book) s.searched.formed
      (low ∙ ap (λ (n : ℕ). cond (leb most_claims n) 13 0) e)
      (rw (net, ← s.total, p))
      (written-header (facts b) b after (sym (repacked b s.searched.formed)) _ _ (put ∙ rw (t, e, s.total, add-one (claims_in rules layout b))))

  -- ---- total

  pub sum_low : due < 2 ^ 62
  sum_low = omega (arith, highest-due)

  module _ (pence : ℕ) (e : pence ≡ pence_in rules layout b) where
    pub claimed-low : ticks_per_penny * pence < 2 ^ 62
    unfolding ledger_of
    claimed-low = omega (arith, (facts-kept b s.searched.formed).pence)

    pub claimed-fits : ticks_per_penny * pence < 2 ^ 64
    claimed-fits = omega (arith, claimed-low)

  pub total-answered : (pence : ℕ) (unclaimed : ℤ) → pence ≡ pence_in rules layout b → unclaimed ≡ sub_ℕ due (ticks_per_penny * pence)
      → AnsweredWithAnyBook b Call.Total (Ok (Totalled due unclaimed)) b
  unfolding refusal tests accept ledger_of
  total-answered pence unclaimed p net book =
      accepted-answered b (Call.Total with book) s.searched.formed refl (rw (net, p, s.total)) (sym (repacked b s.searched.formed))

-- ---- report

module _ (b : List ℕ) (rows c : ℕ) (s : Searched b rows) where
  pub report-refused : (r : Refusal) → number_of r ≡ first_of (open_tests (view_of b) c) → AnsweredWithAnyBook b (Call.Report c) (Err r) b
  unfolding refusal tests
  report-refused r e book = refused-answered b (Call.Report c with book) r s.formed e

  pub report-accepted : 0 ≡ first_of (open_tests (view_of b) c) → (said : Answer) → Ok said ≡ (accept rules (facts b) (Call.Report c with [])).answers → AnsweredWithAnyBook b (Call.Report c) (Ok said) b
  unfolding refusal tests accept
  report-accepted none said f book = accepted-answered b (Call.Report c with book) s.formed none f (sym (repacked b s.formed))
