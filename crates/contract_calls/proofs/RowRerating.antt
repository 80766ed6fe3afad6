-- One row re-rated: what is found and left, by whether it has shares and whether its amount changes. Assumes nothing.
use mathlib.Core.Path.{◌≡◌, sym, ap, ◌∙◌}
use mathlib.Core.Bool.{Bool, true, false, not, cond}
use mathlib.Core.List.{List}
use Prim.Native.Nat.{ℕ, ◌^◌, ◌<◌}
use native.Mathlib.Omega.{arith}
use lib.Dec.{eqb}
use lib.ListN.{length}
use Rattle.basics.proofs.Tests.{yes-eq, no_eq}
use Rattle.records.specs.Edits.{replace_at}
use Rattle.records.specs.OneSlot.{record_bytes}
use Rattle.records.proofs.Replaced.{replaced-same}
use Rattle.rates.specs.declared.Contract.{Contract}
use Rattle.rates.specs.TermsTaken.{terms_for}
use Rattle.amounts.specs.Amounts.{has_shares, amount, Rateable, by_terms}
use Rattle.amounts.proofs.AmountBounds.{amount-bits}
use Rattle.model.specs.declared.Row.{Row}
use Rattle.model.specs.Ledger.{with_amount, priced, rerated}
use Rattle.layout.specs.PresentLayout.{row_record}
use Rattle.layout.specs.Offsets.{ledger_length, row_start, row_length}
use Rattle.layout.specs.Present.{row_at, rules}
use Rattle.layout.proofs.Present.{row-in-slot}
use Rattle.contract_calls.specs.Rerating.{RowInSlot, new_amount, RowRerated}

-- ---- a row of another contract is as it was, and one of the contract has its amount under the certified one

module _ (contract : ℕ) (certified : Contract) (x : Row) where
  pub other_row : (x.bill.contract ≡ contract → ⊥) → rerated rules contract certified x ≡ x
  unfolding rerated
  other_row n = rw (no_eq _ _ n)

  pub own_row : x.bill.contract ≡ contract → rerated rules contract certified x ≡ with_amount x (by_terms amount certified x.bill)
  unfolding rerated priced
  own_row e = rw (yes-eq _ _ e)

-- ---- whether an amount is another

module _ (new old : ℕ) where
  pub unchanged : new ≡ old → ◌≡◌ {A = ℕ} 0 (cond (not (eqb new old)) 1 0)
  unchanged e = rw (yes-eq new old e)

  changed : (new ≡ old → ⊥) → ◌≡◌ {A = ℕ} 1 (cond (not (eqb new old)) 1 0)
  changed n = rw (no_eq new old n)

-- ---- the row x of slot i, which is one of the contract

module _ (b : List ℕ) (i contract : ℕ) (certified : Contract) (slot : RowInSlot b i contract certified) (x : Row) (read : x ≡ row_at b i) where
  pub bill-rateable : Rateable x.bill
  bill-rateable = rw read slot.rateable

  pub bill-whole : (h : Bool) → h ≡ has_shares x.bill → h ≡ false → has_shares x.bill ≡ false
  bill-whole h e none = sym e ∙ none

  is-old : x.amount ≡ (row_at b i).amount
  is-old = ap (λ (y : Row). y.amount) read

  new : (a : ℕ) → a ≡ by_terms amount certified x.bill → rerated rules contract certified (row_at b i) ≡ with_amount (row_at b i) a
  new a rated = own_row contract certified (row_at b i) slot.own ∙ ap (with_amount (row_at b i)) (sym (rw read at rated))

  -- its amount stays
  row_stays : length b ≡ ledger_length → x.amount ≡ by_terms amount certified x.bill → RowRerated contract certified b i (record { old = x.amount; new = x.amount; changed = 0 }) b
  row_stays long same =
      let is : rerated rules contract certified (row_at b i) ≡ row_at b i = new x.amount same ∙ ap (with_amount (row_at b i)) is-old in
      record {
        old = is-old;
        new = ap (λ (y : Row). y.amount) (read ∙ sym is);
        changed = unchanged _ _ (ap (λ (y : Row). y.amount) is);
        left = sym (ap (λ (bytes : List ℕ). replace_at (row_start i) bytes b) (ap (record_bytes row_record) (is ∙ row-in-slot b i) ∙ slot.packed) ∙ replaced-same (row_start i) row_length b (omega (arith, long, slot.inside)));
      }

  pub shares-stay : length b ≡ ledger_length → (h : Bool) → h ≡ has_shares x.bill → h ≡ true → RowRerated contract certified b i (record { old = x.amount; new = x.amount; changed = 0 }) b
  shares-stay long h e some = row_stays long (rw read (sym (slot.set_aside (rw read at (sym e ∙ some)))))

  -- its amount under the certified contract is a
  module _ (a : ℕ) (rated : a ≡ by_terms amount certified x.bill) where
    pub amount-stays : length b ≡ ledger_length → a ≡ x.amount → RowRerated contract certified b i (record { old = x.amount; new = x.amount; changed = 0 }) b
    amount-stays long same = row_stays long (sym same ∙ rated)

    pub new-amount-low : a < 2 ^ 50
    new-amount-low = omega (arith, rated, amount-bits (terms_for certified x.bill.first) x.bill bill-rateable)

    pub amount-changes : (a ≡ x.amount → ⊥) → (after : List ℕ) → after ≡ replace_at (row_start i) (record_bytes row_record (with_amount (row_at b i) a)) b
        → RowRerated contract certified b i (record { old = x.amount; new = a; changed = 1 }) after
    amount-changes other after put =
        let is-new : a ≡ new_amount contract certified (row_at b i) = sym (ap (λ (y : Row). y.amount) (new a rated)) in
        record {
          old = is-old;
          new = is-new;
          changed = changed _ _ (λ e. other (is-new ∙ e ∙ sym is-old));
          left = put ∙ ap (λ (y : Row). replace_at (row_start i) (record_bytes row_record y) b) (sym (new a rated));
        }

pub ruleset row_rerated = (bill-rateable, bill-whole, shares-stay, amount-stays, new-amount-low)
