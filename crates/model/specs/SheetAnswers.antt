-- Every answer from the sheet: what a call answers by the sheet before it and the pence that the claims before it answered. It reads no
-- row and no stored amount. Assumes nothing.
use Rattle.std.specs.Prelude.{◌≡◌, not, cond, List, [], ◌∷◌, ◌++◌, ℕ, ◌/◌, ◌%◌, ◌<◌, ◌≤◌, eqb, ℤ, pos, ◌+ℤ◌, ◌-ℤ◌, ◌*ℤ◌, Result, Ok, Err}
use Rattle.std.proofs.Math.IntN.{sub_ℕ}
use Rattle.limits.specs.Limits.{ticks_per_penny}
use Rattle.basics.specs.Lists.{total, count}
use Rattle.basics.specs.Integers.{sumℤ}
use Rattle.model.specs.declared.Answer.{Answer}
use Rattle.model.specs.declared.Answer.TheVariants.{Done, Billed, Rebilled, Certified, Cancelled, Claimed, Reported, Totalled}
use Rattle.model.specs.OpenContracts.{contract_at}
use Rattle.model.specs.declared.Call.{Call}
use Rattle.model.specs.Calls.{CallWithBook, named, requested_bill, claim_pence, ◌with◌}
use Rattle.model.specs.Rules.{Rules, refusal, unless_refused, part_of_due}
use Rattle.model.specs.Sheet.{Sheet, view, accept, step, due}
use Rattle.model.specs.History.{run, replies, Machine, sheet_after, state_after, answers_to}
use Rattle.model.specs.Balance.{sheet_of}

module _ (R : Rules) where
  -- the part of due of the standing bill with that contract and first day, 0 where there is none
  unfoldable pub named_part : Sheet → (contract first : ℕ) → ℕ
  named_part s c first = total (λ b. cond (named c first b) (part_of_due R s.contracts b) 0) s.bills

  -- what each call answers where nothing turns it down
  unfoldable pub accepted_answer : Sheet → (pence : ℤ) → CallWithBook → Answer
  accepted_answer s pence (Call.Open c fuel kind fix entry with book) = Done
  accepted_answer s pence (Call.Bill q with book) =
      let b = requested_bill s.contracts q book in
      Billed b.reference (R.rate (contract_at s.contracts q.contract) b) (part_of_due R s.contracts b)
  accepted_answer s pence (Call.Rebill q with book) =
      let b = requested_bill s.contracts q book in
      Rebilled b.reference (R.rate (contract_at s.contracts q.contract) b) (sub_ℕ (part_of_due R s.contracts b) (named_part s q.contract q.first))
  -- the net change of due, and how many standing bills have another part than before
  accepted_answer s pence (Call.Cert c class effective with book) =
      let after = accept s (Call.Cert c class effective with book) in
      Certified (sub_ℕ (due R after) (due R s)) (count (λ b. not (eqb (part_of_due R after.contracts b) (part_of_due R s.contracts b))) s.bills)
  accepted_answer s pence (Call.Cancel c first with book) = Cancelled (sub_ℕ 0 (named_part s c first))
  accepted_answer s pence (Call.Claim with book) = Claimed (pos (due R s / ticks_per_penny) -ℤ pence) (due R s % ticks_per_penny)
  accepted_answer s pence (Call.Report c with book) = Reported
      (count (λ b. eqb b.contract c) s.bills)
      (total (λ b. cond (eqb b.contract c) b.kwh 0) s.bills)
      (total (λ b. cond (eqb b.contract c) (part_of_due R s.contracts b) 0) s.bills)
  accepted_answer s pence (Call.Total with book) = Totalled (due R s) (pos (due R s) -ℤ pos ticks_per_penny *ℤ pence)
  accepted_answer s pence (Call.Amend c end fix entry with book) = Done

  -- a refused call answers its number
  unfoldable pub sheet_answer : Sheet → (pence : ℤ) → CallWithBook → Result Answer ℕ
  sheet_answer s pence c = let n = refusal R (view s) c in unless_refused n (Ok (accepted_answer s pence c)) (Err n)

  -- of a machine: after every history, from a fresh ledger of either territory, any call
  abbrev pub EveryAnswerFromTheSheet : Machine → Type 0
  EveryAnswerFromTheSheet m = (territory : ℕ) → territory ≤ 1 → (h : List CallWithBook) (c : CallWithBook) →
      m.answer (state_after m territory h) c ≡ sheet_answer (sheet_after R territory h) (sumℤ claim_pence (answers_to m territory h)) c

  -- the same from any good state on, of the sheet that begins with its own facts and of the pence that it had
  abbrev pub StoredAnswersFromTheSheet : (m : Machine) → (good : m.State → Type 0) → Type 0
  StoredAnswersFromTheSheet m good = (s : m.State) → good s → (h : List CallWithBook) (c : CallWithBook) →
      m.answer (run m.step s h) c ≡ sheet_answer (run (step R) (sheet_of (m.facts s)) h) (pos (m.facts s).pence +ℤ sumℤ claim_pence (replies m.step m.answer s h)) c

  -- so a claim that the sheet accepts, as the last call, is answered as one and leaves an unclaimed amount of 0 to 9,999
  abbrev pub EveryAcceptedClaimLeavesRest : Machine → Type 0
  EveryAcceptedClaimLeavesRest m = (territory : ℕ) → territory ≤ 1 → (h : List CallWithBook) → refusal R (view (sheet_after R territory h)) (Call.Claim with []) ≡ 0 →
      let claimed = h ++ ((Call.Claim with []) ∷ []) in
      (u : ℕ) × (m.answer (state_after m territory claimed) (Call.Total with []) ≡ Ok (Totalled (due R (sheet_after R territory claimed)) (pos u))) × (u < ticks_per_penny)
