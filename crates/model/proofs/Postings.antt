-- The ledger answers what the posting module answers, call by call, and so do its bytes in any format. Assumes nothing.
use mathlib.Core.Path.{◌≡◌, refl, sym, ap, ◌∙◌}
use mathlib.Core.Bool.{Bool, true, false, not, cond}
use mathlib.Core.List.{List, [], ◌∷◌, ◌++◌, map}
use Prim.Native.Nat.{ℕ, suc, ◌+◌, ◌-◌, ◌*◌, ◌/◌, ◌%◌}
use native.Mathlib.Omega.{arith}
use lib.Dec.{eqb}
use lib.IntN.{ℤ, pos, negsuc, neg_ℤ, sub_ℕ, ◌+ℤ◌, +ℤ_idr, +ℤ_idl, +ℤ_comm, neg_ℤ-+ℤ}
use Rattle.limits.specs.Limits.{ticks_per_penny}
use Rattle.basics.specs.Lists.{total}
use Rattle.basics.proofs.Tests.{eq_no}
use Rattle.basics.proofs.Lists.{total-cong, total-split}
use Rattle.basics.proofs.Integers.{sub-lt, sub-pos, sub_same, sum-append}
use Rattle.rates.specs.declared.Contract.{Contract}
use Rattle.amounts.specs.declared.Bill.{Bill}
use Rattle.model.specs.Codes.{certify}
use Rattle.model.specs.OpenContracts.{Contracts, contract_at, put_contract}
use Rattle.model.specs.declared.Call.{Call}
use Rattle.model.specs.declared.Request.{Request}
use Rattle.model.specs.Calls.{CallWithBook, named, requested_bill, customer_amount, claim_pence, ◌with◌}
use Rattle.model.specs.Rules.{Rules, refusal, part_of_due}
use Rattle.model.specs.Ledger.{Ledger, fresh, amount_of, accept as accept_ledger, step as step_ledger, answer, due as due_ledger}
use Rattle.model.specs.Sheet.{Sheet, view as view_sheet, due as due_sheet, accept as accept_sheet}
use Rattle.model.specs.History.{replies, answers_to, ledger_machine}
use Rattle.model.specs.Format.{Format, bytes_machine, FormatLaws}
use Rattle.model.specs.SheetAnswers.{named_part}
use Rattle.model.specs.Postings.{answered_rate, answered_figures, Postings, nothing_posted, sum_posted, passing, issues, reversals, posts, accepted_rate, accepted_pence, accept, accepted_figures, step, figures, FloorLeavesRest, SameAsPostings}
use Rattle.model.proofs.RulesLaws.{RulesLaws}
use Rattle.model.proofs.Outcomes.{either-outcome}
use Rattle.model.proofs.RowSums.{total-strike}
use Rattle.model.proofs.Relation.{Related, agree, dues}
use Rattle.model.proofs.KeepsRelation.{part-other, keep-act}
use Rattle.model.proofs.Conservation.{law-due, law-pence}
use Rattle.model.proofs.Balance.{start}
use Rattle.model.proofs.SheetAnswers.{requested-amount, named-amount}
use Rattle.model.proofs.Refinement.{same-answers}
use Rattle.model.proofs.BytesBalance.{bytes-refine}

pub floor_leaves_rest : FloorLeavesRest
floor_leaves_rest (pos n) = (n % ticks_per_penny, ap pos (omega arith), omega arith)
floor_leaves_rest (negsuc n) =
    let m : ℕ = ticks_per_penny * suc (n / ticks_per_penny) in
    let rest : ℕ = m - suc n in
    let back : m - suc rest ≡ n = omega arith in
    (rest, sym (+ℤ_comm (neg_ℤ (pos m)) (pos rest) ∙ sym (sub-pos rest m) ∙ sub-lt rest m (omega arith) ∙ ap negsuc back), omega arith)

-- ---- postings added up

module _ {A : Type 0} (w : A → ℕ) where
  sum-issued : (xs : List A) → sum_posted (map (λ x. pos (w x)) xs) ≡ pos (total w xs)
  sum-issued [] = refl
  sum-issued (x ∷ xs) = ap (λ (z : ℤ). pos (w x) +ℤ z) (sum-issued xs)

  sum-reversed : (xs : List A) → sum_posted (map (λ x. neg_ℤ (pos (w x))) xs) ≡ neg_ℤ (pos (total w xs))
  sum-reversed [] = refl
  sum-reversed (x ∷ xs) = ap (λ (z : ℤ). neg_ℤ (pos (w x)) +ℤ z) (sum-reversed xs) ∙ sym (neg_ℤ-+ℤ (pos (w x)) (pos (total w xs)))

-- bills issued less bills reversed
sum-exchanged : (R : Rules) (cs cs' : Contracts) (old new : List Bill) → sum_posted (reversals R cs old ++ issues R cs' new) ≡ sub_ℕ (total (part_of_due R cs') new) (total (part_of_due R cs) old)
sum-exchanged R cs cs' old new =
    sum-append (λ z. z) (reversals R cs old) (issues R cs' new)
    ∙ (λ i. sum-reversed (part_of_due R cs) old i +ℤ sum-issued (part_of_due R cs') new i)
    ∙ +ℤ_comm (neg_ℤ (pos (total (part_of_due R cs) old))) (pos (total (part_of_due R cs') new))
    ∙ sym (sub-pos (total (part_of_due R cs') new) (total (part_of_due R cs) old))

total-passing : (p : Bill → Bool) (w : Bill → ℕ) (bs : List Bill) → total w (passing p bs) ≡ total (λ b. cond (p b) (w b) 0) bs
total-passing p w bs = total-strike (λ b. not (p b)) w bs ∙ total-cong _ _ (λ b. turn (p b) (w b)) bs
  where
    turn : (q : Bool) (n : ℕ) → cond (not q) 0 n ≡ cond q n 0
    turn true n = refl
    turn false n = refl

other-same : (q : Bool) (m n : ℕ) → (q ≡ false → m ≡ n) → cond q 0 m ≡ cond q 0 n
other-same true m n f = refl
other-same false m n f = f refl

module _ (R : Rules) (ok : RulesLaws R) where
  -- ---- the customer's signed amount of each accepted call is the sum of what it posts

  module _ (l : Ledger) (s : Sheet) (r : Related R l s) where
    -- the amount of the row of that name is the sum over the bills of that name
    named-bills : (c first : ℕ) → amount_of (named c first) l.rows ≡ total (part_of_due R s.contracts) (passing (named c first) s.bills)
    unfolding named_part
    named-bills c first = named-amount R l s r c first ∙ sym (total-passing (named c first) (part_of_due R s.contracts) s.bills)

    -- a certificate changes due by what it changes the parts of its contract's bills
    certified-due : (c : ℕ) (k : Contract) → total (part_of_due R (put_contract s.contracts c k)) s.bills + total (part_of_due R s.contracts) (passing (λ b. eqb b.contract c) s.bills)
        ≡ total (part_of_due R (put_contract s.contracts c k)) (passing (λ b. eqb b.contract c) s.bills) + total (part_of_due R s.contracts) s.bills
    certified-due c k =
        let new : Bill → ℕ = part_of_due R (put_contract s.contracts c k) in
        let old : Bill → ℕ = part_of_due R s.contracts in
        let of : Bill → Bool = λ b. eqb b.contract c in
        let others : total (λ b. cond (of b) 0 (new b)) s.bills ≡ total (λ b. cond (of b) 0 (old b)) s.bills = total-cong _ _ (λ b. other-same (of b) (new b) (old b) (λ e. part-other R s.contracts c k b (eq_no b.contract c e))) s.bills in
        omega (arith, total-passing of new s.bills, total-passing of old s.bills, total-split of new s.bills, total-split of old s.bills, others)

    rebilled-customer : (q : Request) (book : List ℕ) → customer_amount (accept_ledger R l (Call.Rebill q with book)).answers ≡ sum_posted (posts R s (Call.Rebill q with book))
    unfolding accept_ledger posts
    rebilled-customer q book =
        let b = requested_bill s.contracts q book in
        let n : total (part_of_due R s.contracts) (b ∷ []) ≡ part_of_due R s.contracts b = omega arith in
        (λ i. sub_ℕ ((requested-amount R l s r q book ∙ sym n) i) (named-bills q.contract q.first i))
        ∙ sym (sum-exchanged R s.contracts s.contracts (passing (named q.contract q.first) s.bills) (b ∷ []))

    certified-customer : (c class effective : ℕ) (book : List ℕ) → refusal R (view_sheet s) (Call.Cert c class effective with book) ≡ 0 → customer_amount (accept_ledger R l (Call.Cert c class effective with book)).answers ≡ sum_posted (posts R s (Call.Cert c class effective with book))
    unfolding accept_ledger accept_sheet posts due_ledger due_sheet
    certified-customer c class effective book e =
        let cs = put_contract s.contracts c (certify (contract_at s.contracts c) class effective) in
        let bs = passing (λ b. eqb b.contract c) s.bills in
        (λ i. sub_ℕ (dues R (accept_ledger R l (Call.Cert c class effective with book)).next (accept_sheet s (Call.Cert c class effective with book)) (keep-act R ok l s (Call.Cert c class effective with book) r e) i) (dues R l s r i))
        ∙ sub_same (total (part_of_due R cs) s.bills) (total (part_of_due R s.contracts) s.bills) (total (part_of_due R cs) bs) (total (part_of_due R s.contracts) bs) (certified-due c (certify (contract_at s.contracts c) class effective))
        ∙ sym (sum-exchanged R s.contracts cs bs bs)

    posted-customer : (c : CallWithBook) → refusal R (view_sheet s) c ≡ 0 → customer_amount (accept_ledger R l c).answers ≡ sum_posted (posts R s c)
    unfolding accept_ledger posts
    posted-customer (Call.Open c fuel kind fix entry with book) e = refl
    posted-customer (Call.Bill q with book) e = ap pos (requested-amount R l s r q book) ∙ sym (+ℤ_idr _)
    posted-customer (Call.Rebill q with book) e = rebilled-customer q book
    posted-customer (Call.Cert c class effective with book) e = certified-customer c class effective book e
    posted-customer (Call.Cancel c first with book) e =
        let bs = passing (named c first) s.bills in
        ap (sub_ℕ 0) (named-bills c first) ∙ sub-pos 0 (total (part_of_due R s.contracts) bs) ∙ +ℤ_idl _ ∙ sym (sum-reversed (part_of_due R s.contracts) bs)
    posted-customer (Call.Claim with book) e = refl
    posted-customer (Call.Report c with book) e = refl
    posted-customer (Call.Total with book) e = refl
    posted-customer (Call.Amend c end fix entry with book) e = refl

  -- ---- the ledger beside the posting module

  record Agree (l : Ledger) (p : Postings) : Type 0 where
    pub facts : Related R l p.standing
    pub posted : sum_posted p.posted ≡ pos (due_ledger l)
    pub claimed : p.claimed ≡ pos l.pence

  module _ (l : Ledger) (p : Postings) (a : Agree l p) where
    accepted-rate : (c : CallWithBook) → answered_rate (accept_ledger R l c).answers ≡ accepted_rate R p.standing c
    unfolding accept_ledger accepted_rate requested_bill
    accepted-rate (Call.Open c fuel kind fix entry with book) = refl
    accepted-rate (Call.Bill q with book) = rw a.facts.contracts
    accepted-rate (Call.Rebill q with book) = rw a.facts.contracts
    accepted-rate (Call.Cert c class effective with book) = refl
    accepted-rate (Call.Cancel c first with book) = refl
    accepted-rate (Call.Claim with book) = refl
    accepted-rate (Call.Report c with book) = refl
    accepted-rate (Call.Total with book) = refl
    accepted-rate (Call.Amend c end fix entry with book) = refl

    accepted-pence : (c : CallWithBook) → claim_pence (accept_ledger R l c).answers ≡ accepted_pence p c
    unfolding accept_ledger accepted_pence
    accepted-pence (Call.Open c fuel kind fix entry with book) = refl
    accepted-pence (Call.Bill q with book) = refl
    accepted-pence (Call.Rebill q with book) = refl
    accepted-pence (Call.Cert c class effective with book) = refl
    accepted-pence (Call.Cancel c first with book) = refl
    accepted-pence (Call.Claim with book) = rw (a.posted, a.claimed) (sub-pos (due_ledger l / ticks_per_penny) l.pence)
    accepted-pence (Call.Report c with book) = refl
    accepted-pence (Call.Total with book) = refl
    accepted-pence (Call.Amend c end fix entry with book) = refl

    same-figures : (c : CallWithBook) → answered_figures (answer R l c) ≡ figures R p c
    unfolding answered_figures answer figures accepted_figures
    same-figures c = either-outcome R l c (λ o. answered_figures o.answers ≡ figures R p c)
        (λ e. let f = sym (agree R l p.standing a.facts c) ∙ e in rw f (λ i. record { rate = accepted-rate c i; customer = posted-customer l p.standing a.facts c f i; pence = accepted-pence c i }))
        (λ n e. let f = sym (agree R l p.standing a.facts c) ∙ e in rw f)

    keep-agree : (c : CallWithBook) → Agree (step_ledger R l c) (step R p c)
    unfolding step_ledger step accept
    keep-agree c = either-outcome R l c (λ o. Agree o.next (step R p c))
        (λ e.
        let f = sym (agree R l p.standing a.facts c) ∙ e in
        rw f (record {
          facts = keep-act R ok l p.standing c a.facts f;
          posted = sum-append (λ z. z) p.posted (posts R p.standing c)
              ∙ (λ i. a.posted i +ℤ sym (posted-customer l p.standing a.facts c f) i)
              ∙ sym (law-due R ok l p.standing c a.facts e);
          claimed = (λ i. a.claimed i +ℤ sym (accepted-pence c) i) ∙ sym (law-pence R ok l c);
        }))
        (λ n e. let f = sym (agree R l p.standing a.facts c) ∙ e in rw f a)

  same-run : (h : List CallWithBook) (l : Ledger) (p : Postings) → Agree l p → map answered_figures (replies (step_ledger R) (answer R) l h) ≡ replies (step R) (figures R) p h
  same-run [] l p a = refl
  same-run (c ∷ h) l p a = λ i. same-figures l p a c i ∷ same-run h (step_ledger R l c) (step R p c) (keep-agree l p a c) i

  pub same-as-postings : SameAsPostings R (ledger_machine R)
  unfolding answers_to fresh nothing_posted due_ledger
  same-as-postings t o h = same-run h (fresh t) (nothing_posted t) (record { facts = start R ok t; posted = refl; claimed = refl })

  pub bytes-same-as-postings : (f : Format) → FormatLaws R f → SameAsPostings R (bytes_machine R f)
  bytes-same-as-postings f w t o h = ap (map answered_figures) (same-answers (bytes_machine R f) (ledger_machine R) (bytes-refine R ok f w) t o h) ∙ same-as-postings t o h
