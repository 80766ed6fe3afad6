-- Each accepted call keeps the relation between the ledger and the sheet. Assumes nothing.
use mathlib.Core.Path.{◌≡◌, refl, sym, ap, ◌∙◌, subst}
use mathlib.Core.Logic.{◌≢◌}
use mathlib.Core.Bool.{Bool, true, false, cond, true≢false}
use mathlib.Core.List.{List, [], ◌∷◌, map}
use Prim.Native.Nat.{ℕ, suc, ◌≤◌}
use native.Mathlib.Omega.{arith}
use lib.Dec.{eqb}
use Rattle.basics.specs.Lists.{All, total, count}
use Rattle.basics.proofs.Tests.{either, and_left, and_right, and_yes, and_no, yes_le, lt_no, eq_yes, yes-eq, eq_no, no_eq}
use Rattle.basics.proofs.Lists.{all_map, all_both, none-all, total-all, total-cong, total_mono, total-split, total-map}
use Rattle.rates.specs.declared.Contract.{Contract}
use Rattle.amounts.specs.declared.Bill.{Bill}
use Rattle.model.specs.declared.Row.{Row}
use Rattle.model.specs.Codes.{opening, certify, amend}
use Rattle.model.specs.OpenContracts.{Contracts, contract_at, is_open, put_contract}
use Rattle.model.specs.declared.Call.{Call}
use Rattle.model.specs.declared.Request.{Request}
use Rattle.model.specs.Calls.{CallWithBook, View, named, sharing, ends_after, requested_bill, ◌with◌}
use Rattle.model.specs.Rules.{Rules, refusal, part_of_due, standing_row}
use Rattle.model.specs.Ledger.{Ledger, remove, replace, priced, rerated, with_contract as with_contract_ledger, accept as accept_ledger}
use Rattle.model.specs.Sheet.{Sheet, strike_out, in_place_of, with_contract as with_contract_sheet, view as view_sheet, accept as accept_sheet}
use Rattle.model.proofs.RowSums.{total-strike, total-swap, total-insert, total-remove, total-replace}
use Rattle.model.proofs.RulesLaws.{Taken, Certified, Amended, RulesLaws}
use Rattle.model.proofs.Relation.{Related, BillOk, once-row}

pub named-contract : (c first : ℕ) (b : Bill) → named c first b ≡ true → b.contract ≡ c
unfolding named
named-contract c first b e = eq_yes b.contract c (and_left (eqb b.contract c) _ e)

pub named-first : (c first : ℕ) (b : Bill) → named c first b ≡ true → b.first ≡ first
unfolding named
named-first c first b e = eq_yes b.first first (and_right (eqb b.contract c) _ e)

-- a bill named so shares the first day
named-shares : (c first last : ℕ) (b : Bill) → first ≤ last → b.first ≤ b.last → named c first b ≡ true → sharing c first last b ≡ true
unfolding named sharing
named-shares c first last b h i e =
    let f : b.first ≡ first = eq_yes b.first first (and_right (eqb b.contract c) _ e) in
    and_yes _ _ (and_left (eqb b.contract c) _ e) (and_yes _ _ (yes_le b.first last (omega arith)) (yes_le first b.last (omega arith)))

one-le : (p q : Bool) → (p ≡ true → q ≡ true) → cond p 1 0 ≤ cond q 1 0
one-le true q f = rw (f refl) (omega arith)
one-le false q f = omega arith

-- one bill more, where none of that name was there
once_more : (b : Bill) (bs : List Bill) → count (named b.contract b.first) bs ≡ 0 → (c first : ℕ) → count (named c first) bs ≤ 1 → count (named c first) (b ∷ bs) ≤ 1
once_more b bs z c first h = either (named c first b)
    (λ e. let z' : count (named c first) bs ≡ 0 = rw (named-contract c first b e, named-first c first b e) at z in rw e (omega arith))
    (λ e. rw e (omega arith))

all-strike : (P : Bill → Type 0) (p : Bill → Bool) (bs : List Bill) → All P bs → All P (strike_out p bs)
all-strike P p [] a = tt
all-strike P p (b ∷ bs) a = either (p b) (λ e. rw e (all-strike P p bs a.1)) (λ e. rw e (a.0, all-strike P p bs a.1))

all-swap : (P : Bill → Type 0) (p : Bill → Bool) (b : Bill) (bs : List Bill) → P b → All P bs → All P (map (in_place_of p b) bs)
unfolding in_place_of
all-swap P p b [] h a = tt
all-swap P p b (x ∷ bs) h a = (either (p x) (λ e. rw e h) (λ e. rw e a.0), all-swap P p b bs h a.1)

-- what is left is no more than what was there
count-strike : (p q : Bill → Bool) (bs : List Bill) → count q (strike_out p bs) ≤ count q bs
count-strike p q bs = omega (arith, total-strike p (λ x. cond (q x) 1 0) bs, total-split p (λ x. cond (q x) 1 0) bs)

-- a bill of the same name in place of each that has it: as many of each name as before
named-same : (d f : ℕ) (x y : Bill) → x.contract ≡ y.contract → x.first ≡ y.first → named d f x ≡ named d f y
unfolding named
named-same d f x y p q = rw (p, q)

named-swap : (c first : ℕ) (b : Bill) → b.contract ≡ c → b.first ≡ first → (d f : ℕ) (bs : List Bill) → count (named d f) (map (in_place_of (named c first) b) bs) ≡ count (named d f) bs
unfolding in_place_of
named-swap c first b p q d f bs = total-map (λ x. cond (named d f x) 1 0) (in_place_of (named c first) b) bs ∙ total-cong _ _ (λ x. ap (λ (y : Bool). cond y 1 0) (same x)) bs
  where
    same : (x : Bill) → named d f (in_place_of (named c first) b x) ≡ named d f x
    same x = either (named c first x) (λ e. rw e (named-same d f b x (p ∙ sym (named-contract c first x e)) (q ∙ sym (named-first c first x e)))) (λ e. rw e)

-- ---- another contract under a number

pub at_same : (cs : Contracts) (c : ℕ) (k : Contract) → contract_at (put_contract cs c k) c ≡ k
unfolding contract_at put_contract
at_same cs c k = rw (yes-eq c c refl)

pub at_other : (cs : Contracts) (c d : ℕ) (k : Contract) → d ≢ c → contract_at (put_contract cs c k) d ≡ contract_at cs d
unfolding contract_at put_contract
at_other cs c d k n = rw (no_eq d c n)

pub open-same : (cs : Contracts) (c : ℕ) (k : Contract) → is_open (put_contract cs c k) c ≡ true
unfolding is_open put_contract
open-same cs c k = rw (yes-eq c c refl)

pub open-other : (cs : Contracts) (c d : ℕ) (k : Contract) → d ≢ c → is_open (put_contract cs c k) d ≡ is_open cs d
unfolding is_open put_contract
open-other cs c d k n = rw (no_eq d c n)

pub contracts-put : (P : Contract → Type 0) (cs : Contracts) (c : ℕ) (k : Contract) → P k → ((d : ℕ) → is_open cs d ≡ true → P (contract_at cs d)) → (d : ℕ) → is_open (put_contract cs c k) d ≡ true → P (contract_at (put_contract cs c k) d)
contracts-put P cs c k o f d e = either (eqb d c)
    (λ i. rw (eq_yes d c i, at_same cs c k) o)
    (λ i. rw (at_other cs c d k (eq_no d c i)) (f d (sym (open-other cs c d k (eq_no d c i)) ∙ e)))

-- a bill of that contract, and one of another
module _ (R : Rules) (cs : Contracts) (c : ℕ) (k : Contract) (b : Bill) where
  pub part-own : b.contract ≡ c → part_of_due R (put_contract cs c k) b ≡ R.amount k b
  unfolding part_of_due
  part-own e = ap (λ (j : Contract). R.amount j b) (ap (contract_at (put_contract cs c k)) e ∙ at_same cs c k)

  pub part-other : b.contract ≢ c → part_of_due R (put_contract cs c k) b ≡ part_of_due R cs b
  unfolding part_of_due
  part-other n = ap (λ (j : Contract). R.amount j b) (at_other cs c b.contract k n)

  pub bill-other : b.contract ≢ c → BillOk R cs b → BillOk R (put_contract cs c k) b
  bill-other n q = record { is_opened = open-other cs c b.contract k n ∙ q.is_opened; ranges = rw (at_other cs c b.contract k n) q.ranges }

  -- a row rated anew is the row of its bill under the other contract
  pub rerated-row : rerated R c k (standing_row R cs b) ≡ standing_row R (put_contract cs c k) b
  unfolding rerated priced
  rerated-row = either (eqb b.contract c)
      (λ e. rw (e, part-own (eq_yes b.contract c e)))
      (λ e. rw (e, part-other (eq_no b.contract c e)))

-- a bill keeps its ranges and its part under other contracts
pub record KeptUnder (R : Rules) (cs cs' : Contracts) (b : Bill) : Type 0 where
  pub ok : BillOk R cs' b
  pub part : part_of_due R cs' b ≡ part_of_due R cs b

-- one of another contract than the one that is changed
pub kept-other : (R : Rules) (cs : Contracts) (c : ℕ) (k : Contract) (b : Bill) → b.contract ≢ c → BillOk R cs b → KeptUnder R cs (put_contract cs c k) b
kept-other R cs c k b n q = record { ok = bill-other R cs c k b n q; part = part-other R cs c k b n }

-- one that doesn't end after the original end of an amendment
pub kept-amended : (R : Rules) (v : View) (c end fix entry : ℕ) → Amended R v c end fix entry → (b : Bill) → ends_after c end b ≡ false → BillOk R v.contracts b
    → KeptUnder R v.contracts (put_contract v.contracts c (amend (contract_at v.contracts c) end fix entry)) b
unfolding ends_after part_of_due
kept-amended R v c end fix entry a b ended q = either (eqb b.contract c)
    (λ e.
    let p : b.contract ≡ c = eq_yes b.contract c e in
    let by_end : b.last ≤ end = lt_no end b.last (and_no (eqb b.contract c) _ ended e) in
    let before = subst (λ (d : ℕ). R.bill_ok (contract_at v.contracts d) b ≡ true) p q.ranges in
    record {
      ok = record {
        is_opened = rw p (open-same v.contracts c k');
        ranges = subst (λ (k : Contract). R.bill_ok k b ≡ true) (sym (ap (contract_at (put_contract v.contracts c k')) p ∙ at_same v.contracts c k')) (a.bill-ranges b by_end before);
      };
      part = part-own R v.contracts c k' b p ∙ a.bill-amount b by_end before ∙ ap (λ (d : ℕ). R.amount (contract_at v.contracts d) b) (sym p);
    })
    (λ e. kept-other R v.contracts c k' b (eq_no b.contract c e) q)
  where
    k' : Contract
    k' = amend (contract_at v.contracts c) end fix entry

pub bill-certified : (R : Rules) → RulesLaws R → (cs : Contracts) (c class effective : ℕ) (b : Bill) → BillOk R cs b → BillOk R (put_contract cs c (certify (contract_at cs c) class effective)) b
bill-certified R ok cs c class effective b q = either (eqb b.contract c)
    (λ e. let p : b.contract ≡ c = eq_yes b.contract c e in record {
      is_opened = rw p (open-same cs c k');
      ranges = subst (λ (k : Contract). R.bill_ok k b ≡ true) (sym (ap (contract_at (put_contract cs c k')) p ∙ at_same cs c k')) (ok.any-cert (contract_at cs c) class effective b (subst (λ (d : ℕ). R.bill_ok (contract_at cs d) b ≡ true) p q.ranges));
    })
    (λ e. bill-other R cs c k' b (eq_no b.contract c e) q)
  where
    k' : Contract
    k' = certify (contract_at cs c) class effective

module _ (R : Rules) (ok : RulesLaws R) where
  named_count : (cs : Contracts) (c first last : ℕ) (bs : List Bill) → first ≤ last → All (BillOk R cs) bs → count (named c first) bs ≤ count (sharing c first last) bs
  named_count cs c first last bs h a = total_mono _ _ bs (all_map (BillOk R cs) _ (λ b q. one-le (named c first b) (sharing c first last b) (named-shares c first last b h (ok.days _ b q.ranges).0)) bs a)

  keep-bill : (l : Ledger) (s : Sheet) (b : Request) (book : List ℕ) → Related R l s → refusal R (view_sheet s) (Call.Bill b with book) ≡ 0 → Related R (accept_ledger R l (Call.Bill b with book)).next (accept_sheet s (Call.Bill b with book))
  unfolding accept_ledger accept_sheet view_sheet requested_bill part_of_due priced
  keep-bill l s b book r e = record {
    territory = r.territory;
    contracts = r.contracts;
    claims = r.claims;
    same = λ w. rw r.contracts (omega (arith, total-insert w (priced R (contract_at s.contracts b.contract) (requested_bill s.contracts b book)) l.rows, r.same w));
    good = r.good;
    sane = (record { is_opened = t.is_opened; ranges = ranges }, r.sane);
    once = λ c first. once_more (requested_bill s.contracts b book) s.bills zero' c first (r.once c first);
  }
    where
      t : Taken R (view_sheet s) b book
      t = ok.bills (view_sheet s) b book e

      ranges : R.bill_ok (contract_at s.contracts b.contract) (requested_bill s.contracts b book) ≡ true
      ranges = t.ranges (r.good b.contract t.is_opened)

      zero' : count (named b.contract b.first) s.bills ≡ 0
      zero' = omega (arith, ok.bill-free (view_sheet s) b book e, named_count s.contracts b.contract b.first b.last s.bills (ok.days _ _ ranges).0 r.sane)

  -- ---- a bill taken away, or put in place of another: sums over rows are sums over bills, with a test

  module _ (l : Ledger) (s : Sheet) (r : Related R l s) (c first : ℕ) where
    gone : (w : Row → ℕ) → total w (remove (named c first) l.rows) ≡ total (λ b. w (standing_row R s.contracts b)) (strike_out (named c first) s.bills)
    gone w = total-remove (named c first) w l.rows (once-row R l s r c first)
        ∙ r.same (λ x. cond (named c first x.bill) 0 (w x))
        ∙ sym (total-strike (named c first) (λ b. w (standing_row R s.contracts b)) s.bills)

    exchanged : (b : Bill) (w : Row → ℕ) → total w (replace (named c first) (standing_row R s.contracts b) l.rows) ≡ total (λ b. w (standing_row R s.contracts b)) (map (in_place_of (named c first) b) s.bills)
    exchanged b w = total-replace (named c first) w (standing_row R s.contracts b) l.rows (once-row R l s r c first)
        ∙ r.same (λ x. cond (named c first x.bill) (w (standing_row R s.contracts b)) (w x))
        ∙ sym (total-swap (named c first) b (λ b. w (standing_row R s.contracts b)) s.bills)

  keep-cancel : (l : Ledger) (s : Sheet) (c first : ℕ) (book : List ℕ) → Related R l s → Related R (accept_ledger R l (Call.Cancel c first with book)).next (accept_sheet s (Call.Cancel c first with book))
  unfolding accept_ledger accept_sheet
  keep-cancel l s c first book r = record {
    territory = r.territory;
    contracts = r.contracts;
    claims = r.claims;
    same = gone l s r c first;
    good = r.good;
    sane = all-strike _ (named c first) s.bills r.sane;
    once = λ d f. let h : count (named d f) s.bills ≤ 1 = r.once d f in omega (arith, count-strike (named c first) (named d f) s.bills);
  }

  keep-rebill : (l : Ledger) (s : Sheet) (b : Request) (book : List ℕ) → Related R l s → refusal R (view_sheet s) (Call.Rebill b with book) ≡ 0 → Related R (accept_ledger R l (Call.Rebill b with book)).next (accept_sheet s (Call.Rebill b with book))
  unfolding accept_ledger accept_sheet view_sheet requested_bill part_of_due priced
  keep-rebill l s b book r e = record {
    territory = r.territory;
    contracts = r.contracts;
    claims = r.claims;
    same = λ w. rw r.contracts (exchanged l s r b.contract b.first (requested_bill s.contracts b book) w);
    good = r.good;
    sane = all-swap (BillOk R s.contracts) _ _ s.bills (record { is_opened = t.is_opened; ranges = t.ranges (r.good b.contract t.is_opened) }) r.sane;
    once = λ d f. rw (named-swap b.contract b.first (requested_bill s.contracts b book) refl refl d f s.bills) (r.once d f);
  }
    where
      t : Taken R (view_sheet s) b book
      t = ok.rebills (view_sheet s) b book e

  -- a contract put under a number so that every standing bill keeps its part: nobody's row is another
  keep-contract : (l : Ledger) (s : Sheet) (c : ℕ) (k : Contract) → Related R l s → R.contract_ok s.territory k ≡ true
      → All (KeptUnder R s.contracts (put_contract s.contracts c k)) s.bills → Related R (with_contract_ledger l c k) (with_contract_sheet s c k)
  keep-contract l s c k r ranges kept = record {
    territory = r.territory;
    contracts = rw r.contracts;
    claims = r.claims;
    same = λ w. r.same w ∙ total-all _ _ s.bills (all_map _ _ (λ b q. ap (λ (n : ℕ). w (record { bill = b; amount = n })) (sym q.part)) s.bills kept);
    good = contracts-put (λ j. R.contract_ok s.territory j ≡ true) s.contracts c k ranges r.good;
    sane = all_map _ _ (λ b q. q.ok) s.bills kept;
    once = r.once;
  }

  -- the contract wasn't open, so no bill of it stands
  keep-open : (l : Ledger) (s : Sheet) (c fuel kind fix entry : ℕ) (book : List ℕ) → Related R l s → refusal R (view_sheet s) (Call.Open c fuel kind fix entry with book) ≡ 0 → Related R (accept_ledger R l (Call.Open c fuel kind fix entry with book)).next (accept_sheet s (Call.Open c fuel kind fix entry with book))
  unfolding accept_ledger accept_sheet view_sheet
  keep-open l s c fuel kind fix entry book r e =
      keep-contract l s c (opening fuel kind fix entry) r (ok.opens (view_sheet s) c fuel kind fix entry book e).ranges
      (all_map _ _ (λ b q. kept-other R s.contracts c (opening fuel kind fix entry) b (other b q) q) s.bills r.sane)
    where
      other : (b : Bill) → BillOk R s.contracts b → b.contract ≢ c
      other b q p = true≢false (sym (rw p at q.is_opened) ∙ (ok.opens (view_sheet s) c fuel kind fix entry book e).new)

  keep-cert : (l : Ledger) (s : Sheet) (c class effective : ℕ) (book : List ℕ) → Related R l s → refusal R (view_sheet s) (Call.Cert c class effective with book) ≡ 0 → Related R (accept_ledger R l (Call.Cert c class effective with book)).next (accept_sheet s (Call.Cert c class effective with book))
  unfolding accept_ledger accept_sheet view_sheet
  keep-cert l s c class effective book r e = record {
    territory = r.territory;
    contracts = rw r.contracts;
    claims = r.claims;
    same = λ w. rw r.contracts (total-map w (rerated R c k') l.rows ∙ r.same (λ x. w (rerated R c k' x)) ∙ total-cong _ _ (λ b. ap w (rerated-row R s.contracts c k' b)) s.bills);
    good = contracts-put (λ k. R.contract_ok s.territory k ≡ true) s.contracts c k' (o.ranges (contract_at s.contracts c) (r.good c o.is_opened)) r.good;
    sane = all_map (BillOk R s.contracts) (BillOk R (put_contract s.contracts c k')) (bill-certified R ok s.contracts c class effective) s.bills r.sane;
    once = r.once;
  }
    where
      k' : Contract
      k' = certify (contract_at s.contracts c) class effective

      o : Certified R (view_sheet s) c class effective
      o = ok.certs (view_sheet s) c class effective book e

  -- no bill of the contract ends after the original end
  pub bills-kept : (l : Ledger) (s : Sheet) (c end fix entry : ℕ) (book : List ℕ) → Related R l s → refusal R (view_sheet s) (Call.Amend c end fix entry with book) ≡ 0
      → All (KeptUnder R s.contracts (put_contract s.contracts c (amend (contract_at s.contracts c) end fix entry))) s.bills
  unfolding view_sheet
  bills-kept l s c end fix entry book r e =
      let a = ok.amends (view_sheet s) c end fix entry book e in
      all_map _ _ (λ b both. kept-amended R (view_sheet s) c end fix entry a b both.1 both.0) s.bills
      (all_both (BillOk R s.contracts) _ s.bills r.sane (none-all (ends_after c end) s.bills a.ended))

  keep-amend : (l : Ledger) (s : Sheet) (c end fix entry : ℕ) (book : List ℕ) → Related R l s → refusal R (view_sheet s) (Call.Amend c end fix entry with book) ≡ 0 → Related R (accept_ledger R l (Call.Amend c end fix entry with book)).next (accept_sheet s (Call.Amend c end fix entry with book))
  unfolding accept_ledger accept_sheet view_sheet
  keep-amend l s c end fix entry book r e =
      let a = ok.amends (view_sheet s) c end fix entry book e in
      let k = amend (contract_at s.contracts c) end fix entry in
      subst (λ (cs : Contracts). Related R (with_contract_ledger l c (amend (contract_at cs c) end fix entry)) (with_contract_sheet s c k)) (sym r.contracts)
      (keep-contract l s c k r (a.ranges (r.good c a.is_opened)) (bills-kept l s c end fix entry book r e))

  pub keep-act : (l : Ledger) (s : Sheet) (c : CallWithBook) → Related R l s → refusal R (view_sheet s) c ≡ 0 → Related R (accept_ledger R l c).next (accept_sheet s c)
  unfolding accept_ledger accept_sheet
  keep-act l s (Call.Open c fuel kind fix entry with book) r e = keep-open l s c fuel kind fix entry book r e
  keep-act l s (Call.Bill b with book) r e = keep-bill l s b book r e
  keep-act l s (Call.Rebill b with book) r e = keep-rebill l s b book r e
  keep-act l s (Call.Cert c class effective with book) r e = keep-cert l s c class effective book r e
  keep-act l s (Call.Cancel c first with book) r e = keep-cancel l s c first book r
  keep-act l s (Call.Claim with book) r e = record { territory = r.territory; contracts = r.contracts; claims = ap suc r.claims; same = r.same; good = r.good; sane = r.sane; once = r.once }
  keep-act l s (Call.Report c with book) r e = r
  keep-act l s (Call.Total with book) r e = r
  keep-act l s (Call.Amend c end fix entry with book) r e = keep-amend l s c end fix entry book r e
