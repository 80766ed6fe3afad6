-- Every answer of the calls has numbers that fit 64 bits with a sign. Assumes nothing.
use Rattle.model.specs.declared.Request.{Request}
use Rattle.std.specs.Prelude.{Result, Ok, Err, IfOk}
use Rattle.refusals.specs.declared.Refusal.{Refusal}
use Rattle.refusals.specs.Numbers.{by_number}
use mathlib.Core.Path.{◌≡◌, refl, sym, subst}
use mathlib.Core.Bool.{Bool, true, false, cond}
use mathlib.Core.List.{List}
use Prim.Native.Nat.{ℕ, zero, suc}
use native.Mathlib.Omega.{arith}
use Rattle.rates.specs.TermsTaken.{terms_for}
use Rattle.amounts.proofs.AmountBounds.{rate-low, amount-low}
use Rattle.model.specs.declared.Answer.{Answer}
use Rattle.model.specs.OpenContracts.{contract_at}
use Rattle.model.specs.declared.Call.{Call}
use Rattle.model.specs.Calls.{CallWithBook, requested_bill, ◌with◌}
use Rattle.model.specs.Rules.{refusal, unless_refused}
use Rattle.model.specs.Ledger.{Ledger, view, of_contract, priced, outcome_turned_down, accept, outcome, answer}
use Rattle.model.specs.WellFormed.{WellFormed}
use Rattle.model.proofs.RulesLaws.{Taken}
use Rattle.model.proofs.PresentRules.{bill-ranges}
use Rattle.model.proofs.RowBounds.{amounts-low, due-low}
use Rattle.layout.specs.Layout.{is_well_formed}
use Rattle.layout.specs.Present.{rules, layout, facts, machine}
use Rattle.layout.proofs.Present.{present, facts-kept}
use Rattle.contract_calls.specs.Start.{start_refusal, done_unless_refused, start_answer}
use Rattle.claim_calls.proofs.ReportSums.{kwh-low}
use Rattle.calls.specs.Replies.{FitsSigned, AnswerFits}

-- ---- a call that nothing turns down

module _ (l : Ledger) (f : WellFormed rules l) where
  -- the rate and the amount of a bill or rebill
  taken-fits : (q : Request) (book : List ℕ) → Taken rules (view l) q book
      → let k = contract_at l.contracts q.contract in let b = requested_bill l.contracts q book in
      FitsSigned (rules.rate k b) × FitsSigned (priced rules k b).amount
  unfolding view priced
  taken-fits q book t =
      let k = contract_at l.contracts q.contract in
      let b = requested_bill l.contracts q book in
      let rateable = (bill-ranges k b (t.ranges (f.contracts q.contract t.is_opened))).rateable in
      let terms = terms_for k b.first in
      (omega (arith, rate-low terms b rateable.supply), omega (arith, amount-low terms b rateable))

  accepted-fits : (c : CallWithBook) → refusal rules (view l) c ≡ 0 → IfOk (accept rules l c).answers AnswerFits
  unfolding accept
  accepted-fits (Call.Open c fuel kind fix entry with book) e = tt
  accepted-fits (Call.Bill q with book) e = taken-fits q book (present.rules.bills (view l) q book e)
  accepted-fits (Call.Rebill q with book) e = (taken-fits q book (present.rules.rebills (view l) q book e)).0
  accepted-fits (Call.Cert c class effective with book) e = tt
  accepted-fits (Call.Cancel c first with book) e = tt
  accepted-fits (Call.Claim with book) e = tt
  accepted-fits (Call.Report c with book) e = (omega (arith, kwh-low l f (of_contract c)), omega (arith, amounts-low f present.rules (of_contract c)))
  accepted-fits (Call.Total with book) e = omega (arith, due-low f present.rules)
  accepted-fits (Call.Amend c end fix entry with book) e = tt

  -- ---- any call

  any-fits : (c : CallWithBook) → IfOk (answer rules l c) AnswerFits
  unfolding answer outcome
  any-fits c = go (refusal rules (view l) c) (accepted-fits c)
    where
      go : (n : ℕ) → (n ≡ 0 → IfOk (accept rules l c).answers AnswerFits) → IfOk (unless_refused n (accept rules l c) (outcome_turned_down l n)).answers AnswerFits
      go zero h = h refl
      go (suc n) h = tt

pub machine-fits : (b : List ℕ) (c : CallWithBook) → IfOk (machine.answer b c) AnswerFits
machine-fits b c = go (is_well_formed rules layout b) (λ e. any-fits (facts b) (facts-kept b e) c)
  where
    go : (t : Bool) → (t ≡ true → IfOk (answer rules (facts b) c) AnswerFits) → IfOk (cond t (answer rules (facts b) c) (Err 2)) AnswerFits
    go true h = h refl
    go false h = tt

pub start_fits : (b : List ℕ) (territory : ℕ) → IfOk (start_answer b territory) AnswerFits
unfolding start_answer
start_fits b territory = go (start_refusal b territory)
  where
    go : (n : ℕ) → IfOk (done_unless_refused n) AnswerFits
    go zero = tt
    go (suc n) = tt

-- ---- of what a function gives, which is another's equal but for its refusal

pub same-fits : (said : Result Answer Refusal) {answer : Result Answer ℕ} → by_number said ≡ answer → IfOk answer AnswerFits → IfOk said AnswerFits
same-fits (Ok a) e h = subst (λ (r : Result Answer ℕ). IfOk r AnswerFits) (sym e) h
same-fits (Err r) e h = tt
