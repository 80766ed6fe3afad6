-- A row's slot and a contract's as they are read, and a row under what its contract's slot holds. Assumes nothing.
use Rattle.std.specs.Prelude.{Result, Ok, Err, Option, Some, None}
use mathlib.Core.Path.{◌≡◌, refl, sym, ap, ◌∙◌}
use mathlib.Core.Bool.{Bool, true, false, not, ◌&&◌}
use mathlib.Core.List.{List, [], ◌∷◌}
use Prim.Native.Nat.{ℕ, suc, ◌<◌}
use lib.Dec.{eqb}
use lib.ListN.{length, drop, get_or}
use Rattle.limits.specs.Limits.{contract_count}
use Rattle.basics.specs.Tests.{every}
use Rattle.basics.proofs.Tests.{and-true, yes_lt, not_yes, not-no}
use Rattle.records.specs.Slots.{all_zero}
use Rattle.records.specs.OneSlot.{slot_numbers, is_taken, record_in, slot_at}
use Rattle.refusals.specs.declared.Refusal.{Refusal}
use Rattle.refusals.specs.declared.Refusal.TheVariants.{NotWellFormed}
use Rattle.rates.specs.declared.Contract.{Contract}
use Rattle.amounts.specs.Amounts.{amount, Rateable, by_terms}
use Rattle.model.specs.declared.Row.{Row}
use Rattle.model.specs.OpenContracts.{contract_in, contract_at, is_there, is_open}
use Rattle.model.specs.Rules.{part_of_due}
use Rattle.model.specs.Ledger.{comes_after}
use Rattle.model.specs.PresentRules.{bill_ok}
use Rattle.model.proofs.PresentRules.{bill-ranges}
use Rattle.layout.specs.Layout.{row_ok}
use Rattle.layout.specs.PresentLayout.{contract_record, row_record}
use Rattle.layout.specs.Offsets.{contract_part, row_part, ledger_length}
use Rattle.layout.specs.Check.{slot_read}
use Rattle.layout.specs.Present.{rules, layout, contracts, row_slot_at}
use Rattle.layout.proofs.Lawful.{offsets}
use Rattle.layout.proofs.RowChecks.{read-free, read-bad, read_held, row-of-slot}
use Rattle.layout.proofs.Present.{present}
use Rattle.layout.proofs.Access.{contract-open, contract-read}
use Rattle.ledger.specs.Rows.{row_under}
use Rattle.ledger.proofs.RowNumbers.{row-contract-low}

-- ---- `row_slot`: the slot's bytes, whether it is held, whether a bit of its zeros is set, and the row that it holds

module _ (b : List ℕ) (i : ℕ) (s : List ℕ) (lent : s ≡ row_part b i) where
  abbrev v : List ℕ
  v = row_slot_at b i

  abbrev zero_bits_of : List ℕ → List ℕ
  zero_bits_of numbers = drop (suc (length row_record.widths)) numbers

  module _ (h : Bool) (e : h ≡ is_taken row_record s) where
    held-is : h ≡ not (eqb (get_or v 0 0) 0)
    unfolding is_taken slot_at offsets
    held-is = e ∙ ap (is_taken row_record) lent

    pub slot-free : not h ≡ true → Ok None ≡ slot_read rules layout v
    slot-free f = read-free present v (not-no _ (sym held-is ∙ not_yes h f))

    module _ (f : not h ≡ false) (p : Bool) (z : p ≡ not (all_zero (zero_bits_of (slot_numbers row_record s)))) where
      taken : eqb (get_or v 0 0) 0 ≡ false
      taken = not_yes _ (sym held-is ∙ not-no h f)

      padded-is : p ≡ not (all_zero (zero_bits_of v))
      unfolding slot_at offsets
      padded-is = z ∙ ap (λ (t : List ℕ). not (all_zero (zero_bits_of (slot_numbers row_record t)))) lent

      pub slot-bad : p ≡ true → Err NotWellFormed ≡ slot_read rules layout v
      slot-bad g = read-bad present v taken (not_yes _ (sym padded-is ∙ g))

      pub slot_held : p ≡ false → (x : Row) → x ≡ record_in row_record s → Ok (Some x) ≡ slot_read rules layout v
      unfolding record_in slot_at offsets
      slot_held g x m = read_held present v taken (not-no _ (sym padded-is ∙ g)) x (m ∙ ap (record_in row_record) lent)

-- what was read of the slot, if it holds a row and if it holds none
pub slot-holds : {read said : Result (Option Row) Refusal} {found : Option Row} {x : Row} → found ≡ Some x → read ≡ Ok found → read ≡ said → Ok (Some x) ≡ said
slot-holds e f g = ap Ok (sym e) ∙ sym f ∙ g

pub slot-empty : {read said : Result (Option Row) Refusal} {found : Option Row} → found ≡ None → read ≡ Ok found → read ≡ said → Ok None ≡ said
slot-empty e f g = ap Ok (sym e) ∙ sym f ∙ g

-- the number of its contract is that of one
pub contract-low : (b : List ℕ) (i : ℕ) {x : Row} → Ok (Some x) ≡ slot_read rules layout (row_slot_at b i) → x.bill.contract < contract_count
contract-low b i e = rw (row-of-slot present (row_slot_at b i) e) (row-contract-low b i)

-- ---- the contract under a number

module _ (b : List ℕ) (long : length b ≡ ledger_length) (c : ℕ) (inside : c < contract_count) (s : List ℕ) (lent : s ≡ contract_part b c) (o : Bool) (e : o ≡ is_taken contract_record s) where
  opened : o ≡ is_open (contracts b) c
  unfolding offsets
  opened = e ∙ ap (is_taken contract_record) lent ∙ contract-open present b long c inside

  pub not_open : o ≡ false → None ≡ contracts b c
  unfolding is_open
  not_open f = go (contracts b c) (sym opened ∙ f)
    where
      go : (k : Option Contract) → is_there k ≡ false → None ≡ k
      go None z = refl
      go (Some k) z = cc

  pub open-there : o ≡ true → (k : Contract) → k ≡ record_in contract_record s → Some k ≡ contracts b c
  unfolding offsets is_open contract_at
  open-there f k read =
      go (contracts b c) (sym opened ∙ f) (read ∙ ap (record_in contract_record) lent ∙ contract-read present b long c inside (sym opened ∙ f))
    where
      go : (o : Option Contract) → is_there o ≡ true → k ≡ contract_in o → Some k ≡ o
      go None z r = cc
      go (Some j) z r = ap Some r

pub same-contract : (b : List ℕ) {c d : ℕ} {k : Option Contract} → d ≡ c → k ≡ contracts b c → k ≡ contracts b d
same-contract b e f = f ∙ ap (λ (n : ℕ). contracts b n) (sym e)

-- ---- `row_ok`: the contract is open, the ranges are kept, the amount is the part of due

pub rateable : (x : Row) (k : Contract) → bill_ok k x.bill ≡ true → Rateable x.bill
rateable x k e = (bill-ranges k x.bill e).rateable

-- the row's test, by what its contract's slot holds
under-contract : (b : List ℕ) (x : Row) → x.bill.contract < contract_count → row_under (contracts b x.bill.contract) x ≡ row_ok rules (contracts b) x
unfolding row_ok is_open contract_at part_of_due
under-contract b x low = rw (yes_lt x.bill.contract contract_count low) (go (contracts b x.bill.contract))
  where
    go : (o : Option Contract) → row_under o x ≡ every (is_there o ∷ bill_ok (contract_in o) x.bill ∷ eqb x.amount (by_terms amount (contract_in o) x.bill) ∷ [])
    go None = refl
    go (Some k) = ap (λ (t : Bool). bill_ok k x.bill && t) (sym (and-true (eqb x.amount (by_terms amount k x.bill)) true refl))

-- what `follows` tells of a row whose contract was read
pub row-tested : (b : List ℕ) (before last : ℕ) (slot : Option Contract) (x : Row) → x.bill.contract < contract_count → slot ≡ contracts b x.bill.contract
    → (r : Bool) → r ≡ row_under slot x && comes_after before last x.bill → row_ok rules (contracts b) x && comes_after before last x.bill ≡ r
row-tested b before last slot x low read r e =
    ap (λ (t : Bool). t && comes_after before last x.bill) (sym (under-contract b x low) ∙ ap (λ (u : Option Contract). row_under u x) (sym read)) ∙ sym e
