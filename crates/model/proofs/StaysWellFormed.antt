-- Each call leaves a well-formed ledger well formed, and so does every list of calls. Assumes nothing.
use Rattle.std.specs.Prelude.{None}
use mathlib.Core.Path.{◌≡◌, refl, sym, ap, ◌∙◌}
use mathlib.Core.Logic.{◌≢◌}
use mathlib.Core.Bool.{Bool, true, false, not, cond, ◌&&◌, false≢true, true≢false}
use mathlib.Core.List.{List, [], ◌∷◌}
use Prim.Native.Nat.{ℕ, suc, ◌+◌, ◌<◌, ◌≤◌, zero-le}
use native.Mathlib.Omega.{arith}
use lib.Dec.{eqb}
use lib.ListN.{length, length-map}
use Rattle.limits.specs.Limits.{row_count}
use Rattle.basics.specs.Lists.{All, total, count}
use Rattle.basics.proofs.Tests.{either, eq_yes, eq_no, no_eq, and-no-left}
use Rattle.basics.proofs.Lists.{all_map, none-all, all_both, all-over, count-true}
use Rattle.rates.specs.declared.Contract.{Contract}
use Rattle.amounts.specs.declared.Bill.{Bill}
use Rattle.model.specs.declared.Row.{Row}
use Rattle.model.specs.Codes.{opening, certify}
use Rattle.model.specs.OpenContracts.{Contracts, contract_at, is_open, put_contract}
use Rattle.model.specs.declared.Call.{Call}
use Rattle.model.specs.declared.Request.{Request}
use Rattle.model.specs.Calls.{CallWithBook, View, named, sharing, ends_after, requested_bill, ◌with◌}
use Rattle.model.specs.Rules.{Rules, refusal, part_of_due}
use Rattle.model.specs.WellFormed.{RowOk, before, Apart, WellFormed}
use Rattle.model.specs.Ledger.{Ledger, insert, remove, replace, sorts_after, ledger_with_rows, priced, rerated, fresh, step, view as view_ledger, accept as accept_ledger}
use Rattle.model.specs.History.{run, state_after, ledger_machine}
use Rattle.model.proofs.Outcomes.{either-outcome}
use Rattle.model.proofs.RowSums.{total-insert}
use Rattle.model.proofs.RulesLaws.{Taken, Opened, Certified, Amended, RulesLaws}
use Rattle.model.proofs.Relation.{BillOk}
use Rattle.model.proofs.KeepsRelation.{named-contract, named-first, contracts-put, part-own, bill-certified, KeptUnder, kept-other, kept-amended}
use Rattle.model.proofs.RowBounds.{row-span, due-low}
use Rattle.model.proofs.RowOrder.{Span, ApartFrom, left-of, right_of, all_insert, apart-insert, all_remove, apart-remove, all-replace, apart-replace, apart-map}

length-insert : (r : Row) (xs : List Row) → length (insert r xs) ≡ suc (length xs)
length-insert r xs = let h : total (λ x. 1) (insert r xs) ≡ 1 + total (λ x. 1) xs = total-insert (λ x. 1) r xs in omega (arith, count-true xs, count-true (insert r xs))

length-remove : (p : Bill → Bool) (xs : List Row) → length (remove p xs) ≤ length xs
length-remove p [] = zero-le
length-remove p (x ∷ xs) = either (p x.bill) (λ e. rw e (omega arith)) (λ e. rw e (omega (arith, length-remove p xs)))

length-replace : (p : Bill → Bool) (r : Row) (xs : List Row) → length (replace p r xs) ≡ length xs
length-replace p r [] = refl
length-replace p r (x ∷ xs) = either (p x.bill) (λ e. rw e) (λ e. rw e (ap suc (length-replace p r xs)))

module _ (R : Rules) (ok : RulesLaws R) where
  pub new_row : (v : View) (b : Request) (book : List ℕ) → ((c : ℕ) → is_open v.contracts c ≡ true → R.contract_ok v.territory (contract_at v.contracts c) ≡ true) → Taken R v b book → RowOk R v.contracts (priced R (contract_at v.contracts b.contract) (requested_bill v.contracts b book))
  unfolding priced requested_bill part_of_due
  new_row v b book g t = record { number = t.number; is_opened = t.is_opened; ranges = t.ranges (g b.contract t.is_opened); part = refl }

  -- ---- the calls, each accepted

  bill-of : {cs : Contracts} {x : Row} → RowOk R cs x → BillOk R cs x.bill
  bill-of o = record { is_opened = o.is_opened; ranges = o.ranges }

  -- a row whose bill keeps its ranges and its part under other contracts
  row_kept : (cs cs' : Contracts) (x : Row) → RowOk R cs x → KeptUnder R cs cs' x.bill → RowOk R cs' x
  row_kept cs cs' x o q = record { number = o.number; is_opened = q.ok.is_opened; ranges = q.ok.ranges; part = o.part ∙ sym q.part }

  -- one that is no row of the contract that is changed
  row_other : (cs : Contracts) (c : ℕ) (k : Contract) (x : Row) → x.bill.contract ≢ c → RowOk R cs x → RowOk R (put_contract cs c k) x
  row_other cs c k x n o = row_kept cs (put_contract cs c k) x o (kept-other R cs c k x.bill n (bill-of o))

  numbers-put : (cs : Contracts) (c : ℕ) (k : Contract) → c < R.contract_limit → ((d : ℕ) → R.contract_limit ≤ d → cs d ≡ None) → (d : ℕ) → R.contract_limit ≤ d → put_contract cs c k d ≡ None
  unfolding put_contract
  numbers-put cs c k h f d i = rw (no_eq d c (omega arith)) (f d i)

  -- other rows, and another contract under a number
  pub with_rows : {l : Ledger} → WellFormed R l → {xs : List Row} → length xs ≤ row_count → All (RowOk R l.contracts) xs → Apart xs → WellFormed R (ledger_with_rows l xs)
  with_rows w few rows apart = record {
    territory = w.territory;
    claims = w.claims;
    pence = w.pence;
    unclaimed = w.unclaimed;
    numbers = w.numbers;
    contracts = w.contracts;
    count = few;
    rows = rows;
    apart = apart;
  }

  with-contract : {l : Ledger} → WellFormed R l → {c : ℕ} {k : Contract} → c < R.contract_limit → R.contract_ok l.territory k ≡ true
      → {xs : List Row} → length xs ≤ row_count → All (RowOk R (put_contract l.contracts c k)) xs → Apart xs
      → WellFormed R (record { territory = l.territory; contracts = put_contract l.contracts c k; rows = xs; claims = l.claims; pence = l.pence })
  with-contract {l} w {c} {k} low ranges few rows apart = record {
    territory = w.territory;
    claims = w.claims;
    pence = w.pence;
    unclaimed = w.unclaimed;
    numbers = numbers-put l.contracts c k low w.numbers;
    contracts = contracts-put (λ j. R.contract_ok l.territory j ≡ true) l.contracts c k ranges w.contracts;
    count = few;
    rows = rows;
    apart = apart;
  }

  stays_open : (l : Ledger) (c fuel kind fix entry : ℕ) (book : List ℕ) → WellFormed R l → refusal R (view_ledger l) (Call.Open c fuel kind fix entry with book) ≡ 0 → WellFormed R (accept_ledger R l (Call.Open c fuel kind fix entry with book)).next
  unfolding accept_ledger view_ledger
  stays_open l c fuel kind fix entry book w e = with-contract w o.number o.ranges w.count
      (all_map (RowOk R l.contracts) (RowOk R (put_contract l.contracts c k')) (λ x q. row_other l.contracts c k' x (other x q) q) l.rows w.rows)
      w.apart
    where
      k' : Contract
      k' = opening fuel kind fix entry

      o : Opened R (view_ledger l) c k'
      o = ok.opens (view_ledger l) c fuel kind fix entry book e

      other : (x : Row) → RowOk R l.contracts x → x.bill.contract ≢ c
      other x q p = true≢false (sym (rw p at q.is_opened) ∙ o.new)

  stays-amend : (l : Ledger) (c end fix entry : ℕ) (book : List ℕ) → WellFormed R l → refusal R (view_ledger l) (Call.Amend c end fix entry with book) ≡ 0 → WellFormed R (accept_ledger R l (Call.Amend c end fix entry with book)).next
  unfolding accept_ledger view_ledger
  stays-amend l c end fix entry book w e = with-contract w a.number (a.ranges (w.contracts c a.is_opened)) w.count
      (all_map _ _ (λ x both. row_kept l.contracts _ x both.0 (kept-amended R (view_ledger l) c end fix entry a x.bill both.1 (bill-of both.0))) l.rows
      (all_both (RowOk R l.contracts) _ l.rows w.rows (none-all (λ x. ends_after c end x.bill) l.rows a.ended)))
      w.apart
    where
      a : Amended R (view_ledger l) c end fix entry
      a = ok.amends (view_ledger l) c end fix entry book e

  pub rerate-bill : (c : ℕ) (k : Contract) (x : Row) → (rerated R c k x).bill ≡ x.bill
  unfolding rerated priced
  rerate-bill c k x = either (eqb x.bill.contract c) (λ e. rw e) (λ e. rw e)

  stays-cert : (l : Ledger) (c class effective : ℕ) (book : List ℕ) → WellFormed R l → refusal R (view_ledger l) (Call.Cert c class effective with book) ≡ 0 → WellFormed R (accept_ledger R l (Call.Cert c class effective with book)).next
  unfolding accept_ledger view_ledger rerated priced part_of_due
  stays-cert l c class effective book w e = with-contract w o.number (o.ranges (contract_at l.contracts c) (w.contracts c o.is_opened)) (rw (length-map l.rows (rerated R c k')) w.count)
      (all-over (RowOk R l.contracts) (RowOk R (put_contract l.contracts c k')) (rerated R c k') again l.rows w.rows)
      (apart-map (rerated R c k') (rerate-bill c k') l.rows w.apart)
    where
      k' : Contract
      k' = certify (contract_at l.contracts c) class effective

      o : Certified R (view_ledger l) c class effective
      o = ok.certs (view_ledger l) c class effective book e

      again : (x : Row) → RowOk R l.contracts x → RowOk R (put_contract l.contracts c k') (rerated R c k' x)
      again x q = go (eqb x.bill.contract c) refl
        where
          still : BillOk R (put_contract l.contracts c k') x.bill
          still = bill-certified R ok l.contracts c class effective x.bill (bill-of q)

          go : (b : Bool) → eqb x.bill.contract c ≡ b → RowOk R (put_contract l.contracts c k') (cond b (priced R k' x.bill) x)
          go true f = record { number = q.number; is_opened = still.is_opened; ranges = still.ranges; part = sym (part-own R l.contracts c k' x.bill (eq_yes x.bill.contract c f)) }
          go false f = row_other l.contracts c k' x (eq_no x.bill.contract c f) q

  stays-bill : (l : Ledger) (b : Request) (book : List ℕ) → WellFormed R l → refusal R (view_ledger l) (Call.Bill b with book) ≡ 0 → WellFormed R (accept_ledger R l (Call.Bill b with book)).next
  unfolding accept_ledger view_ledger priced requested_bill
  stays-bill l b book w e = with_rows w (let h : count (λ x. true) l.rows < row_count = ok.bill-room (view_ledger l) b book e in omega (arith, length-insert r l.rows, count-true l.rows))
      (all_insert (RowOk R l.contracts) r l.rows new w.rows)
      (apart-insert r l.rows (all_map _ (ApartFrom r) fit l.rows (all_both (RowOk R l.contracts) _ l.rows w.rows (none-all (λ x. sharing b.contract b.first b.last x.bill) l.rows (ok.bill-free (view_ledger l) b book e)))) w.apart)
    where
      r : Row
      r = priced R (contract_at l.contracts b.contract) (requested_bill l.contracts b book)

      new : RowOk R l.contracts r
      new = new_row (view_ledger l) b book w.contracts (ok.bills (view_ledger l) b book e)

      fit : (x : Row) → RowOk R l.contracts x × (sharing b.contract b.first b.last x.bill ≡ false) → ApartFrom r x
      fit x o = record {
        span = row-span ok o.0;
        left = left-of r x (row-span ok new) (row-span ok o.0) o.1;
        right = right_of r x (row-span ok new) (row-span ok o.0) o.1;
      }

  stays-rebill : (l : Ledger) (b : Request) (book : List ℕ) → WellFormed R l → refusal R (view_ledger l) (Call.Rebill b with book) ≡ 0 → WellFormed R (accept_ledger R l (Call.Rebill b with book)).next
  unfolding accept_ledger view_ledger priced requested_bill before
  stays-rebill l b book w e = with_rows w (rw (length-replace (named b.contract b.first) r l.rows) w.count)
      (all-replace (RowOk R l.contracts) (named b.contract b.first) r l.rows new w.rows)
      (apart-replace _ (named b.contract b.first) r earlier later l.rows (all_both (RowOk R l.contracts) _ l.rows w.rows (none-all clash l.rows (ok.rebill-free (view_ledger l) b book e))) w.apart)
    where
      r : Row
      r = priced R (contract_at l.contracts b.contract) (requested_bill l.contracts b book)

      new : RowOk R l.contracts r
      new = new_row (view_ledger l) b book w.contracts (ok.rebills (view_ledger l) b book e)

      clash : Row → Bool
      clash x = sharing b.contract b.first b.last x.bill && not (named b.contract b.first x.bill)

      earlier : (y x : Row) → named b.contract b.first x.bill ≡ true → before y x → before y r
      earlier y x n h = omega (arith, named-contract b.contract b.first x.bill n, named-first b.contract b.first x.bill n)

      later : (x z : Row) → RowOk R l.contracts x × (clash x ≡ false) → RowOk R l.contracts z × (clash z ≡ false) → named b.contract b.first x.bill ≡ true → before x z → before r z
      later x z q o n h = either (sorts_after z.bill r.bill) (right_of r z (row-span ok new) sz apart') (λ f. let y : ⊥ = omega (arith, left-of r z (row-span ok new) sz apart' f, sx.days, sz.days, nc, nf) in absurd y)
        where
          sx : Span x
          sx = row-span ok q.0

          sz : Span z
          sz = row-span ok o.0

          nc : x.bill.contract ≡ b.contract
          nc = named-contract b.contract b.first x.bill n

          nf : x.bill.first ≡ b.first
          nf = named-first b.contract b.first x.bill n

          unnamed : not (named b.contract b.first z.bill) ≡ true
          unnamed = either (named b.contract b.first z.bill) (λ m. let y : ⊥ = omega (arith, named-contract b.contract b.first z.bill m, named-first b.contract b.first z.bill m, sx.days, nc, nf) in absurd y) (λ m. rw m)

          apart' : sharing b.contract b.first b.last z.bill ≡ false
          apart' = and-no-left (sharing b.contract b.first b.last z.bill) _ o.1 unnamed

  stays-cancel : (l : Ledger) (c first : ℕ) (book : List ℕ) → WellFormed R l → WellFormed R (accept_ledger R l (Call.Cancel c first with book)).next
  unfolding accept_ledger
  stays-cancel l c first book w = with_rows w (let h : length l.rows ≤ row_count = w.count in omega (arith, length-remove (named c first) l.rows))
      (all_remove (RowOk R l.contracts) (named c first) l.rows w.rows)
      (apart-remove (named c first) l.rows w.apart)

  stays-claim : (l : Ledger) (book : List ℕ) → WellFormed R l → refusal R (view_ledger l) (Call.Claim with book) ≡ 0 → WellFormed R (accept_ledger R l (Call.Claim with book)).next
  unfolding accept_ledger view_ledger
  stays-claim l book w e = record {
    territory = w.territory;
    claims = ok.claims (view_ledger l) book e;
    pence = omega (arith, due-low w ok);
    unclaimed = λ z. let y : ⊥ = omega arith in absurd y;
    numbers = w.numbers;
    contracts = w.contracts;
    count = w.count;
    rows = w.rows;
    apart = w.apart;
  }

  pub stays-act : (l : Ledger) (c : CallWithBook) → WellFormed R l → refusal R (view_ledger l) c ≡ 0 → WellFormed R (accept_ledger R l c).next
  unfolding accept_ledger
  stays-act l (Call.Open c fuel kind fix entry with book) w e = stays_open l c fuel kind fix entry book w e
  stays-act l (Call.Bill b with book) w e = stays-bill l b book w e
  stays-act l (Call.Rebill b with book) w e = stays-rebill l b book w e
  stays-act l (Call.Cert c class effective with book) w e = stays-cert l c class effective book w e
  stays-act l (Call.Cancel c first with book) w e = stays-cancel l c first book w
  stays-act l (Call.Claim with book) w e = stays-claim l book w e
  stays-act l (Call.Report c with book) w e = w
  stays-act l (Call.Total with book) w e = w
  stays-act l (Call.Amend c end fix entry with book) w e = stays-amend l c end fix entry book w e

  pub stays : (l : Ledger) (c : CallWithBook) → WellFormed R l → WellFormed R (step R l c)
  unfolding step
  stays l c w = either-outcome R l c (λ o. WellFormed R o.next) (stays-act l c w) (λ n e. w)

  stays-run : (h : List CallWithBook) (l : Ledger) → WellFormed R l → WellFormed R (run (step R) l h)
  stays-run [] l w = w
  stays-run (c ∷ h) l w = stays-run h (step R l c) (stays l c w)

pub fresh-formed : (R : Rules) (t : ℕ) → t ≤ 1 → WellFormed R (fresh t)
unfolding fresh is_open
fresh-formed R t h = record {
  territory = h;
  claims = zero-le;
  pence = omega arith;
  unclaimed = λ z. refl;
  numbers = λ c i. refl;
  contracts = λ c e. absurd (false≢true e);
  count = zero-le;
  rows = tt;
  apart = tt;
}

-- so every history leaves a well-formed ledger
pub history-formed : (R : Rules) → RulesLaws R → (t : ℕ) → t ≤ 1 → (h : List CallWithBook) → WellFormed R (state_after (ledger_machine R) t h)
unfolding state_after
history-formed R ok t o h = stays-run R ok h (fresh t) (fresh-formed R t o)
