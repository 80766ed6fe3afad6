-- What a bill or rebill may give, and that no call makes a larger row: every row's bill was there before, or was given by an accepted call. Assumes
-- nothing.
use mathlib.Core.Path.{◌≡◌, refl}
use mathlib.Core.Bool.{true}
use mathlib.Core.List.{List, [], ◌∷◌, map, Memᴰ}
use Prim.Native.Nat.{ℕ, ◌<◌, ◌≤◌}
use native.Mathlib.Omega.{arith}
use Rattle.limits.specs.Limits.{most_kwh_given}
use Rattle.basics.specs.Lists.{All}
use Rattle.basics.proofs.Tests.{yes_lt}
use Rattle.basics.proofs.Lists.{all_map, all-over}
use Rattle.rates.specs.declared.Contract.{Contract}
use Rattle.amounts.specs.declared.Bill.{Bill}
use Rattle.model.specs.Codes.{certify}
use Rattle.model.specs.OpenContracts.{contract_at}
use Rattle.model.specs.declared.Row.{Row}
use Rattle.model.specs.declared.Call.{Call}
use Rattle.model.specs.declared.Request.{Request}
use Rattle.model.specs.Calls.{CallWithBook, View, named, requested_bill, ◌with◌}
use Rattle.model.specs.Rules.{Rules, refusal}
use Rattle.model.specs.PresentRules.{bad_amounts, tests, present_rules}
use Rattle.model.specs.Ledger.{Ledger, fresh, view, priced, rerated, accept, step}
use Rattle.model.specs.History.{run, state_after, ledger_machine}
use Rattle.model.specs.Format.{Format, bytes_machine, FormatLaws}
use Rattle.model.specs.WellFormed.{WellFormed}
use Rattle.model.specs.AcceptedCalls.{Accepted, contract_named}
use Rattle.model.specs.LargestBill.{LargestBill, LargerRowsStoodBefore, NoLargerRow}
use Rattle.model.proofs.Outcomes.{either-outcome}
use Rattle.model.proofs.AcceptedBill.{kwh-low}
use Rattle.model.proofs.RulesLaws.{RulesLaws}
use Rattle.model.proofs.PresentRules.{passed}
use Rattle.model.proofs.RowOrder.{all_insert, all_remove, all-replace}
use Rattle.model.proofs.StaysWellFormed.{rerate-bill}
use Rattle.model.proofs.Refinement.{carry, carry-from}
use Rattle.model.proofs.BytesBalance.{bytes-refine}

-- ---- what a call may give

module _ (v : View) (q : Request) (book : List ℕ) where
  bill-low : Accepted v (Call.Bill q) book → q.kwh ≤ most_kwh_given
  unfolding tests
  bill-low e = let p = passed v (Call.Bill q with book) e in kwh-low (contract_named v q) q book (p 3) (p 8)

  rebill-low : Accepted v (Call.Rebill q) book → q.kwh ≤ most_kwh_given
  unfolding tests
  rebill-low e = let p = passed v (Call.Rebill q with book) e in kwh-low (contract_named v q) q book (p 3) (p 8)

larger : (k : Contract) (q : Request) → most_kwh_given < q.kwh → bad_amounts k q ≡ true
unfolding bad_amounts
larger k q more = rw (yes_lt most_kwh_given q.kwh more)

pub largest_bill : LargestBill
largest_bill = record { bills = bill-low; rebills = rebill-low; larger = larger }

-- ---- what holds of each row's bill, and of the bill of each accepted bill and rebill, holds after every list of calls, by any rules

module _ (R : Rules) (ok : RulesLaws R) (P : Bill → Type 0)
    (billed : (v : View) (q : Request) (book : List ℕ) → refusal R v (Call.Bill q with book) ≡ 0 → P (requested_bill v.contracts q book))
    (rebilled : (v : View) (q : Request) (book : List ℕ) → refusal R v (Call.Rebill q with book) ≡ 0 → P (requested_bill v.contracts q book)) where
  abbrev OfBill : Row → Type 0
  OfBill x = P x.bill

  accepted : (l : Ledger) (c : CallWithBook) → All OfBill l.rows → refusal R (view l) c ≡ 0 → All OfBill (accept R l c).next.rows
  unfolding accept view priced
  accepted l (Call.Open c fuel kind fix entry with book) a e = a
  accepted l (Call.Bill q with book) a e = all_insert OfBill _ l.rows (billed (view l) q book e) a
  accepted l (Call.Rebill q with book) a e = all-replace OfBill (named q.contract q.first) _ l.rows (rebilled (view l) q book e) a
  accepted l (Call.Cert c class effective with book) a e =
      let k = certify (contract_at l.contracts c) class effective in
      all-over OfBill OfBill (rerated R c k) (λ x p. rw (rerate-bill R ok c k x) p) l.rows a
  accepted l (Call.Cancel c first with book) a e = all_remove OfBill (named c first) l.rows a
  accepted l (Call.Claim with book) a e = a
  accepted l (Call.Report c with book) a e = a
  accepted l (Call.Total with book) a e = a
  accepted l (Call.Amend c end fix entry with book) a e = a

  each-bill : (h : List CallWithBook) (l : Ledger) → All OfBill l.rows → All OfBill (run (step R) l h).rows
  unfolding step
  each-bill [] l a = a
  each-bill (c ∷ h) l a = each-bill h (step R l c) (either-outcome R l c (λ o. All OfBill o.next.rows) (accepted l c a) (λ n e. a))

-- each row's bill is among those of the rows
own-bills : (xs : List Row) → All (λ x. Memᴰ x.bill (map (λ y. y.bill) xs)) xs
own-bills [] = tt
own-bills (x ∷ xs) = (Memᴰ.head refl, all_map _ _ (λ y m. Memᴰ.tail m) xs (own-bills xs))

module _ (ok : RulesLaws present_rules) where
  larger-rows-stood-before : LargerRowsStoodBefore (ledger_machine present_rules) (WellFormed present_rules)
  unfolding requested_bill
  larger-rows-stood-before l w h =
      each-bill present_rules ok (λ b. most_kwh_given < b.kwh → Memᴰ b (map (λ y. y.bill) l.rows))
      (λ v q book e more. absurd (let z : ⊥ = omega (arith, bill-low v q book e) in z))
      (λ v q book e more. absurd (let z : ⊥ = omega (arith, rebill-low v q book e) in z))
      h l (all_map _ _ (λ x m more. m) l.rows (own-bills l.rows))

  -- and of its bytes, in any format
  pub bytes-larger-rows-stood-before : (f : Format) → FormatLaws present_rules f → LargerRowsStoodBefore (bytes_machine present_rules f) (λ b. f.is_well_formed b ≡ true)
  bytes-larger-rows-stood-before f w b s h =
      carry-from (bytes_machine present_rules f) (ledger_machine present_rules) (bytes-refine present_rules ok f w)
      (λ answered next facts. All (λ x. most_kwh_given < x.bill.kwh → Memᴰ x.bill (map (λ y. y.bill) (f.unpack b).rows)) facts.rows) (Call.Total with []) h b s
      (larger-rows-stood-before (f.unpack b) (w.unpacked b s) h)

  pub bytes-no-larger-row : (f : Format) → FormatLaws present_rules f → NoLargerRow (bytes_machine present_rules f)
  unfolding requested_bill state_after fresh
  bytes-no-larger-row f w t o h =
      carry (bytes_machine present_rules f) (ledger_machine present_rules) (bytes-refine present_rules ok f w) t o h
      (λ answered next facts. All (λ x. x.bill.kwh ≤ most_kwh_given) facts.rows) (Call.Total with [])
      (each-bill present_rules ok (λ b. b.kwh ≤ most_kwh_given) bill-low rebill-low h (fresh t) tt)
