-- Every history balances. Assumes nothing.
use Rattle.std.specs.Prelude.{Result, Ok}
use mathlib.Core.Path.{◌≡◌, refl, sym, ap, ◌∙◌, subst}
use mathlib.Core.Bool.{false≢true}
use mathlib.Core.List.{List, [], ◌∷◌, ◌++◌, Memᴰ}
use Prim.Native.Nat.{ℕ, ◌-◌, ◌*◌, ◌/◌, ◌<◌, ◌≤◌, zero-le}
use native.Mathlib.Omega.{arith}
use lib.IntN.{ℤ, pos, sub_ℕ, ◌+ℤ◌, +ℤ_idr}
use Rattle.limits.specs.Limits.{ticks_per_penny}
use Rattle.basics.specs.Lists.{All}
use Rattle.basics.specs.Integers.{sumℤ}
use Rattle.basics.proofs.Integers.{sub-ge, reset, sum-append}
use Rattle.amounts.specs.declared.Bill.{Bill}
use Rattle.model.specs.declared.Answer.{Answer}
use Rattle.model.specs.declared.Answer.TheVariants.{Claimed, Totalled}
use Rattle.model.specs.OpenContracts.{contract_of, is_open}
use Rattle.model.specs.declared.Call.{Call}
use Rattle.model.specs.Calls.{CallWithBook, customer_amount, claim_pence, ◌with◌}
use Rattle.model.specs.Rules.{Rules, unless_refused, part_of_due}
use Rattle.model.specs.Ledger.{Ledger, fresh, outcome_turned_down, outcome, step, answer, view as view_ledger, due as due_ledger, accept as accept_ledger}
use Rattle.model.specs.Sheet.{Sheet, blank, due as due_sheet, step as step_sheet}
use Rattle.model.specs.History.{run, replies, sheet_after, state_after, answers_to, ledger_machine}
use Rattle.model.specs.Balance.{Balanced, EveryHistoryBalances}
use Rattle.model.proofs.Outcomes.{either-outcome}
use Rattle.model.proofs.Runs.{simulates, conserves}
use Rattle.model.proofs.Relation.{Related, BillOk, agree, dues}
use Rattle.model.proofs.Conservation.{law-due, law-pence}
use Rattle.model.proofs.KeepsRelation.{keep-act}
use Rattle.model.proofs.RulesLaws.{RulesLaws}
use Rattle.model.proofs.StandingRows.{row-of-bill}

rest-small : (d p : ℕ) → p ≡ d / ticks_per_penny → (u : ℕ) × (sub_ℕ d (ticks_per_penny * p) ≡ pos u) × (u < ticks_per_penny)
rest-small d p e = (d - ticks_per_penny * p, sub-ge d (ticks_per_penny * p) (omega arith), omega arith)

all-mem : {A : Type 0} (P : A → Type 0) (xs : List A) → All P xs → (x : A) → Memᴰ x xs → P x
all-mem P [] a x m = elim m [ ]
all-mem P (y ∷ xs) a x (Memᴰ.head e) = rw e a.0
all-mem P (y ∷ xs) a x (Memᴰ.tail m) = all-mem P xs a.1 x m

module _ (R : Rules) (ok : RulesLaws R) where
  pub start : (t : ℕ) → Related R (fresh t) (blank t)
  unfolding fresh blank is_open
  start t = record { territory = refl; contracts = refl; claims = refl; same = λ w. refl; good = λ c e. absurd (false≢true e); sane = tt; once = λ c first. zero-le }

  keep : (l : Ledger) (s : Sheet) (c : CallWithBook) → Related R l s → Related R (step R l c) (step_sheet R s c)
  unfolding step step_sheet
  keep l s c r = either-outcome R l c (λ o. Related R o.next (step_sheet R s c))
      (λ e. let f = sym (agree R l s r c) ∙ e in rw f (keep-act R ok l s c r f))
      (λ n e. let f = sym (agree R l s r c) ∙ e in rw f r)

  due-step : (l : Ledger) (s : Sheet) (c : CallWithBook) → Related R l s → pos (due_ledger (step R l c)) ≡ pos (due_ledger l) +ℤ customer_amount (answer R l c)
  unfolding step answer
  due-step l s c r = either-outcome R l c (λ o. pos (due_ledger o.next) ≡ pos (due_ledger l) +ℤ customer_amount o.answers) (law-due R ok l s c r) (λ n e. sym (+ℤ_idr _))

  pence-step : (l : Ledger) (s : Sheet) (c : CallWithBook) → Related R l s → pos (step R l c).pence ≡ pos l.pence +ℤ claim_pence (answer R l c)
  unfolding step answer
  pence-step l s c r = either-outcome R l c (λ o. pos o.next.pence ≡ pos l.pence +ℤ claim_pence o.answers) (λ e. law-pence R ok l c) (λ n e. sym (+ℤ_idr _))

  -- ---- over a whole list, from any related start

  pub related : (h : List CallWithBook) (l : Ledger) (s : Sheet) → Related R l s → Related R (run (step R) l h) (run (step_sheet R) s h)
  related = simulates (step R) (answer R) (step_sheet R) (Related R) keep

  pub due-run : (h : List CallWithBook) (l : Ledger) (s : Sheet) → Related R l s → pos (due_ledger (run (step R) l h)) ≡ pos (due_ledger l) +ℤ sumℤ customer_amount (replies (step R) (answer R) l h)
  due-run = conserves (step R) (answer R) (step_sheet R) (Related R) keep (λ l. pos (due_ledger l)) customer_amount due-step

  pub pence-run : (h : List CallWithBook) (l : Ledger) (s : Sheet) → Related R l s → pos (run (step R) l h).pence ≡ pos l.pence +ℤ sumℤ claim_pence (replies (step R) (answer R) l h)
  pence-run = conserves (step R) (answer R) (step_sheet R) (Related R) keep (λ l. pos l.pence) claim_pence pence-step

  pub total-says : (l : Ledger) → answer R l (Call.Total with []) ≡ Ok (Totalled (due_ledger l) (sub_ℕ (due_ledger l) (ticks_per_penny * l.pence)))
  unfolding answer outcome accept_ledger
  total-says l = subst (λ (n : ℕ). (unless_refused n (accept_ledger R l (Call.Total with [])) (outcome_turned_down l n)).answers ≡ Ok (Totalled (due_ledger l) (sub_ℕ (due_ledger l) (ticks_per_penny * l.pence)))) (sym (ok.totals (view_ledger l) [])) refl

  act-floor : (l : Ledger) (c : CallWithBook) (p : ℤ) (rest : ℕ) → (accept_ledger R l c).answers ≡ Ok (Claimed p rest) → (accept_ledger R l c).next.pence ≡ due_ledger (accept_ledger R l c).next / ticks_per_penny
  unfolding accept_ledger due_ledger
  act-floor l (Call.Open c fuel kind fix entry with book) p rest e = cc
  act-floor l (Call.Bill b with book) p rest e = cc
  act-floor l (Call.Rebill b with book) p rest e = cc
  act-floor l (Call.Cert c class effective with book) p rest e = cc
  act-floor l (Call.Cancel c first with book) p rest e = cc
  act-floor l (Call.Claim with book) p rest e = refl
  act-floor l (Call.Report c with book) p rest e = cc
  act-floor l (Call.Total with book) p rest e = cc
  act-floor l (Call.Amend c end fix entry with book) p rest e = cc

  -- an accepted claim leaves the pence at the floor, and no other call answers as it does
  claim-floor : (l : Ledger) (c : CallWithBook) (p : ℤ) (rest : ℕ) → answer R l c ≡ Ok (Claimed p rest) → (step R l c).pence ≡ due_ledger (step R l c) / ticks_per_penny
  unfolding answer step due_ledger
  claim-floor l c p rest = either-outcome R l c (λ o. o.answers ≡ Ok (Claimed p rest) → o.next.pence ≡ due_ledger o.next / ticks_per_penny) (λ e. act-floor l c p rest)
      (λ n e f. let z : ◌≡◌ {A = ℕ} 0 1 = cc in let y : ⊥ = omega arith in absurd y)

  pub last_claim : (h : List CallWithBook) (l : Ledger) (before : List (Result Answer ℕ)) (p : ℤ) (rest : ℕ) → replies (step R) (answer R) l h ≡ before ++ (Ok (Claimed p rest) ∷ []) → (run (step R) l h).pence ≡ due_ledger (run (step R) l h) / ticks_per_penny
  last_claim [] l [] p rest e = let z : ◌≡◌ {A = ℕ} 0 1 = cc in let y : ⊥ = omega arith in absurd y
  last_claim [] l (a ∷ before) p rest e = let z : ◌≡◌ {A = ℕ} 0 1 = cc in let y : ⊥ = omega arith in absurd y
  last_claim (c ∷ []) l [] p rest e = claim-floor l c p rest (cc)
  last_claim (c ∷ d ∷ h) l [] p rest e = let z : ◌≡◌ {A = ℕ} 0 1 = cc in let y : ⊥ = omega arith in absurd y
  last_claim (c ∷ []) l (a ∷ before) p rest e = last_claim [] (step R l c) before p rest (cc)
  last_claim (c ∷ d ∷ h) l (a ∷ before) p rest e = last_claim (d ∷ h) (step R l c) before p rest (cc)

  -- ---- the statement, from a related pair on: what was answered before, and what is answered after

  module _ (l₀ : Ledger) (s₀ : Sheet) (r₀ : Related R l₀ s₀) (h : List CallWithBook) (earlier : List (Result Answer ℕ))
      (due₀ : sumℤ customer_amount earlier ≡ pos (due_ledger l₀)) (pence₀ : sumℤ claim_pence earlier ≡ pos l₀.pence)
      (floor₀ : (before : List (Result Answer ℕ)) (p : ℤ) (rest : ℕ) → earlier ++ replies (step R) (answer R) l₀ h ≡ before ++ (Ok (Claimed p rest) ∷ []) → (run (step R) l₀ h).pence ≡ due_ledger (run (step R) l₀ h) / ticks_per_penny) where
    abbrev l : Ledger
    l = run (step R) l₀ h

    abbrev s : Sheet
    s = run (step_sheet R) s₀ h

    abbrev answered : List (Result Answer ℕ)
    answered = earlier ++ replies (step R) (answer R) l₀ h

    end : Related R l s
    end = related h l₀ s₀ r₀

    end-due : due_ledger l ≡ due_sheet R s
    end-due = dues R l s end

    customers-add-up : sumℤ customer_amount answered ≡ pos (due_sheet R s)
    customers-add-up = sum-append customer_amount earlier _ ∙ rw due₀ (sym (due-run h l₀ s₀ r₀) ∙ ap pos end-due)

    pence-add-up : sumℤ claim_pence answered ≡ pos l.pence
    pence-add-up = sum-append claim_pence earlier _ ∙ rw pence₀ (sym (pence-run h l₀ s₀ r₀))

    part-cap : (bs : List Bill) → All (BillOk R s.contracts) bs → (b : Bill) → Memᴰ b bs → part_of_due R s.contracts b ≤ R.cap (contract_of s.contracts b) b
    unfolding part_of_due
    part-cap bs a b m = ok.capped _ b (all-mem (BillOk R s.contracts) bs a b m).ranges

    pub balanced : Balanced R s answered (answer R l (Call.Total with [])) l.rows
    balanced = record {
      customers = customers-add-up;
      unclaimed = sub_ℕ (due_sheet R s) (ticks_per_penny * l.pence);
      total = total-says l ∙ rw end-due;
      claims = rw pence-add-up (sym (reset (ticks_per_penny * l.pence) (due_sheet R s)));
      claimed = λ before p rest e. rest-small (due_sheet R s) l.pence (floor₀ before p rest e ∙ ap (λ (d : ℕ). d / ticks_per_penny) end-due);
      rows = λ b m. row-of-bill R _ _ end b m;
      capped = λ b m. part-cap s.bills end.sane b m;
    }

  pub every-history-balances : EveryHistoryBalances R (ledger_machine R)
  unfolding state_after answers_to sheet_after fresh due_ledger
  every-history-balances t o h = balanced (fresh t) (blank t) (start t) h [] refl refl (last_claim h (fresh t))
