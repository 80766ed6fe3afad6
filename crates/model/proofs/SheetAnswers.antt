-- The ledger answers every call from the sheet, and so do its bytes in any format. Assumes nothing.
use Rattle.std.specs.Prelude.{Result, Ok, Err}
use mathlib.Core.Path.{◌≡◌, refl, sym, ap, ◌∙◌}
use mathlib.Core.Bool.{not, cond}
use mathlib.Core.List.{List, [], ◌∷◌, ◌++◌}
use Prim.Native.Nat.{ℕ, ◌*◌, ◌/◌}
use lib.Dec.{eqb}
use lib.IntN.{ℤ, pos, sub_ℕ, ◌+ℤ◌, +ℤ_idl}
use Rattle.limits.specs.Limits.{ticks_per_penny}
use Rattle.basics.specs.Lists.{count}
use Rattle.basics.specs.Integers.{sumℤ}
use Rattle.basics.proofs.Lists.{total-cong}
use Rattle.rates.specs.declared.Contract.{Contract}
use Rattle.model.specs.declared.Row.{Row}
use Rattle.model.specs.declared.Answer.{Answer}
use Rattle.model.specs.declared.Answer.TheVariants.{Billed, Rebilled, Certified, Cancelled, Reported, Totalled}
use Rattle.model.specs.Codes.{certify}
use Rattle.model.specs.OpenContracts.{Contracts, contract_at, put_contract}
use Rattle.model.specs.declared.Call.{Call}
use Rattle.model.specs.declared.Request.{Request}
use Rattle.model.specs.Calls.{CallWithBook, named, requested_bill, claim_pence, ◌with◌}
use Rattle.model.specs.Rules.{Rules, refusal, unless_refused, part_of_due}
use Rattle.model.specs.Ledger.{Ledger, fresh, amount_of, priced, of_contract, rerated, accept as accept_ledger, answer, due as due_ledger}
use Rattle.model.specs.Sheet.{Sheet, blank, view as view_sheet, step as step_sheet, due as due_sheet, accept as accept_sheet}
use Rattle.model.specs.History.{run, replies, Machine, sheet_after, state_after, answers_to, ledger_machine}
use Rattle.model.specs.Balance.{EveryHistoryBalances, sheet_of}
use Rattle.model.specs.WellFormed.{WellFormed}
use Rattle.model.specs.Format.{Format, bytes_machine, FormatLaws}
use Rattle.model.specs.SheetAnswers.{named_part, accepted_answer, sheet_answer, EveryAnswerFromTheSheet, StoredAnswersFromTheSheet, EveryAcceptedClaimLeavesRest}
use Rattle.model.proofs.RulesLaws.{RulesLaws}
use Rattle.model.proofs.Outcomes.{either-outcome}
use Rattle.model.proofs.RowSums.{amount-at}
use Rattle.basics.proofs.Integers.{sub-pos}
use Rattle.model.proofs.Relation.{Related, agree, dues, once-row}
use Rattle.model.proofs.KeepsRelation.{rerated-row, keep-act}
use Rattle.model.proofs.Balance.{start, related, pence-run}
use Rattle.model.proofs.StoredBalance.{stored}
use Rattle.model.proofs.Refinement.{carry, carry-from}
use Rattle.model.proofs.BytesBalance.{bytes-refine}

module _ (R : Rules) (l : Ledger) (s : Sheet) (r : Related R l s) where
  -- the amount of a new row is the part of the bill that the call brings
  pub requested-amount : (q : Request) (book : List ℕ) → (priced R (contract_at l.contracts q.contract) (requested_bill l.contracts q book)).amount ≡ part_of_due R s.contracts (requested_bill s.contracts q book)
  unfolding priced part_of_due requested_bill
  requested-amount q book = rw r.contracts

  requested-rate : (q : Request) (book : List ℕ) → R.rate (contract_at l.contracts q.contract) (requested_bill l.contracts q book) ≡ R.rate (contract_at s.contracts q.contract) (requested_bill s.contracts q book)
  requested-rate q book = rw r.contracts

  requested-reference : (q : Request) (book : List ℕ) → (requested_bill l.contracts q book).reference ≡ (requested_bill s.contracts q book).reference
  requested-reference q book = rw r.contracts

  -- the amount of the row of that name is the part of the bill of that name
  pub named-amount : (c first : ℕ) → amount_of (named c first) l.rows ≡ named_part R s c first
  unfolding named_part
  named-amount c first = amount-at (named c first) l.rows (once-row R l s r c first) ∙ r.same (λ x. cond (named c first x.bill) x.amount 0)

  -- the rows whose amount a certificate changes are the bills whose part it changes
  changed-rows : (c : ℕ) (k : Contract) → count (λ x. not (eqb (rerated R c k x).amount x.amount)) l.rows ≡ count (λ b. not (eqb (part_of_due R (put_contract s.contracts c k) b) (part_of_due R s.contracts b))) s.bills
  changed-rows c k = r.same (λ x. cond (not (eqb (rerated R c k x).amount x.amount)) 1 0)
      ∙ total-cong _ _ (λ b. ap (λ (x : Row). cond (not (eqb x.amount (part_of_due R s.contracts b))) 1 0) (rerated-row R s.contracts c k b)) s.bills

module _ (R : Rules) (ok : RulesLaws R) where
  certified-answer : (l : Ledger) (s : Sheet) (c class effective : ℕ) (book : List ℕ) → Related R l s → refusal R (view_sheet s) (Call.Cert c class effective with book) ≡ 0
      → (accept_ledger R l (Call.Cert c class effective with book)).answers ≡ Ok (accepted_answer R s (pos l.pence) (Call.Cert c class effective with book))
  unfolding accept_ledger accept_sheet accepted_answer due_ledger
  certified-answer l s c class effective book r e = λ i. Ok (Certified
      (sub_ℕ (dues R (accept_ledger R l (Call.Cert c class effective with book)).next (accept_sheet s (Call.Cert c class effective with book)) (keep-act R ok l s (Call.Cert c class effective with book) r e) i) (dues R l s r i))
      ((ap (λ (cs : Contracts). changes cs) r.contracts ∙ changed-rows R l s r c (certify (contract_at s.contracts c) class effective)) i))
    where
      changes : Contracts → ℕ
      changes cs = count (λ x. not (eqb (rerated R c (certify (contract_at cs c) class effective) x).amount x.amount)) l.rows

  reported : (l : Ledger) (s : Sheet) (c : ℕ) (book : List ℕ) → Related R l s → (accept_ledger R l (Call.Report c with book)).answers ≡ Ok (accepted_answer R s (pos l.pence) (Call.Report c with book))
  unfolding accept_ledger accepted_answer
  reported l s c book r = λ i. Ok (Reported (r.same (λ x. cond (of_contract c x) 1 0) i) (r.same (λ x. cond (of_contract c x) x.bill.kwh 0) i) (r.same (λ x. cond (of_contract c x) x.amount 0) i))

  accepted : (l : Ledger) (s : Sheet) (c : CallWithBook) → Related R l s → refusal R (view_sheet s) c ≡ 0 → (accept_ledger R l c).answers ≡ Ok (accepted_answer R s (pos l.pence) c)
  unfolding accept_ledger accepted_answer
  accepted l s (Call.Open c fuel kind fix entry with book) r e = refl
  accepted l s (Call.Bill q with book) r e = λ i. Ok (Billed (requested-reference R l s r q book i) (requested-rate R l s r q book i) (requested-amount R l s r q book i))
  accepted l s (Call.Rebill q with book) r e = λ i. Ok (Rebilled (requested-reference R l s r q book i) (requested-rate R l s r q book i) (sub_ℕ (requested-amount R l s r q book i) (named-amount R l s r q.contract q.first i)))
  accepted l s (Call.Cert c class effective with book) r e = certified-answer l s c class effective book r e
  accepted l s (Call.Cancel c first with book) r e = λ i. Ok (Cancelled (sub_ℕ 0 (named-amount R l s r c first i)))
  accepted l s (Call.Claim with book) r e = rw (dues R l s r, sub-pos (due_sheet R s / ticks_per_penny) l.pence)
  accepted l s (Call.Report c with book) r e = reported l s c book r
  accepted l s (Call.Total with book) r e = rw (dues R l s r, sub-pos (due_sheet R s) (ticks_per_penny * l.pence))
  accepted l s (Call.Amend c end fix entry with book) r e = refl

  answered : (l : Ledger) (s : Sheet) (c : CallWithBook) → Related R l s → answer R l c ≡ sheet_answer R s (pos l.pence) c
  unfolding answer sheet_answer
  answered l s c r = either-outcome R l c (λ o. o.answers ≡ sheet_answer R s (pos l.pence) c)
      (λ e. let f = sym (agree R l s r c) ∙ e in rw f (accepted l s c r f))
      (λ n e. let f = sym (agree R l s r c) ∙ e in rw f)

  pub every-answer-from-the-sheet : EveryAnswerFromTheSheet R (ledger_machine R)
  unfolding state_after answers_to sheet_after fresh
  every-answer-from-the-sheet t o h c =
      answered _ _ c (related R ok h (fresh t) (blank t) (start R ok t))
      ∙ ap (λ (z : ℤ). sheet_answer R (sheet_after R t h) z c) (pence-run R ok h (fresh t) (blank t) (start R ok t) ∙ +ℤ_idl _)

  pub bytes-answer-from-the-sheet : (f : Format) → FormatLaws R f → EveryAnswerFromTheSheet R (bytes_machine R f)
  bytes-answer-from-the-sheet f w t o h c =
      carry (bytes_machine R f) (ledger_machine R) (bytes-refine R ok f w) t o h (λ answers next facts. next ≡ sheet_answer R (sheet_after R t h) (sumℤ claim_pence answers) c) c
      (every-answer-from-the-sheet t o h c)

  stored-answers-from-the-sheet : StoredAnswersFromTheSheet R (ledger_machine R) (WellFormed R)
  stored-answers-from-the-sheet l w h c =
      let r = stored R ok l w in
      answered _ _ c (related R ok h l (sheet_of l) r) ∙ ap (λ (z : ℤ). sheet_answer R (run (step_sheet R) (sheet_of l) h) z c) (pence-run R ok h l (sheet_of l) r)

  pub bytes-answer-from-the-stored-sheet : (f : Format) (w : FormatLaws R f) → StoredAnswersFromTheSheet R (bytes_machine R f) (bytes-refine R ok f w).good
  bytes-answer-from-the-stored-sheet f w b s h c =
      let l = f.unpack b in
      carry-from (bytes_machine R f) (ledger_machine R) (bytes-refine R ok f w)
      (λ answers next facts. next ≡ sheet_answer R (run (step_sheet R) (sheet_of l) h) (pos l.pence +ℤ sumℤ claim_pence answers) c) c h b s
      (stored-answers-from-the-sheet l (w.unpacked b s) h c)

-- ---- a claim as the last call

replies-last : {S C A : Type 0} (move : S → C → S) (reply : S → C → A) (s : S) (h : List C) (c : C) → replies move reply s (h ++ (c ∷ [])) ≡ replies move reply s h ++ (reply (run move s h) c ∷ [])
replies-last move reply s [] c = refl
replies-last move reply s (d ∷ h) c = λ i. reply s d ∷ replies-last move reply (move s d) h c i

pub accepted-claim-leaves-rest : (R : Rules) (m : Machine) → EveryHistoryBalances R m → EveryAnswerFromTheSheet R m → EveryAcceptedClaimLeavesRest R m
unfolding state_after answers_to sheet_answer accepted_answer
accepted-claim-leaves-rest R m balances answers t o h e =
    let b = balances t o (h ++ ((Call.Claim with []) ∷ [])) in
    let says : m.answer (state_after m t h) (Call.Claim with []) ≡ Ok (accepted_answer R (sheet_after R t h) (sumℤ claim_pence (answers_to m t h)) (Call.Claim with []))
    = answers t o h (Call.Claim with []) ∙ ap (λ (n : ℕ). unless_refused n (Ok (accepted_answer R (sheet_after R t h) (sumℤ claim_pence (answers_to m t h)) (Call.Claim with []))) (Err n)) e in
    let rest = b.claimed (answers_to m t h) _ _ (replies-last m.step m.answer (m.start t) h (Call.Claim with []) ∙ ap (λ (a : Result Answer ℕ). answers_to m t h ++ (a ∷ [])) says) in
    (rest.0, b.total ∙ ap (λ (u : ℤ). Ok (Totalled (due_sheet R (sheet_after R t (h ++ ((Call.Claim with []) ∷ [])))) u)) rest.1, rest.2)
