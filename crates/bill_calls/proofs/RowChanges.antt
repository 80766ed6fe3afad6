-- A bill's row added, put in place of another, or removed: what is needed for it, answered and left. Assumes nothing.
use mathlib.Core.Path.{◌≡◌, sym, ap, ap₂, ◌∙◌, subst}
use mathlib.Core.List.{List}
use Prim.Native.Nat.{ℕ, ◌+◌, ◌*◌, ◌^◌, ◌≤◌, ◌<◌}
use native.Mathlib.Omega.{arith}
use lib.IntN.{ℤ, sub_ℕ}
use lib.ListN.{length}
use Rattle.limits.specs.Limits.{row_count}
use Rattle.fields.specs.Fields.{Fit}
use Rattle.records.specs.Edits.{insert_at, remove_at, replace_at, on_part}
use Rattle.records.specs.OneSlot.{record_bytes}
use Rattle.records.proofs.Scan.{record_of}
use Rattle.rates.specs.declared.Contract.{Contract}
use Rattle.rates.specs.TermsTaken.{terms_for}
use Rattle.amounts.specs.declared.Bill.{Bill}
use Rattle.amounts.specs.Amounts.{rate, amount, Rateable, by_terms}
use Rattle.amounts.proofs.AmountBounds.{amount-bits}
use Rattle.model.specs.declared.Row.{Row}
use Rattle.model.specs.declared.Answer.TheVariants.{Billed, Rebilled, Cancelled}
use Rattle.model.specs.OpenContracts.{Contracts}
use Rattle.model.specs.Calls.{named}
use Rattle.model.specs.Ledger.{comes_after, sorts_after, amount_of, priced, ledger_with_rows}
use Rattle.model.specs.WellFormed.{RowOk}
use Rattle.model.proofs.PresentRules.{bill-ranges}
use Rattle.model.proofs.Places.{place-le, insert-at, remove-at, replace-at, amount-at}
use Rattle.layout.specs.PresentLayout.{row_record}
use Rattle.layout.specs.Offsets.{first_row, row_start, row_length}
use Rattle.layout.specs.Present.{rules, facts, contracts, bytes, row_at, row_slot_at}
use Rattle.layout.proofs.PresentLayout.{row_fits}
use Rattle.layout.proofs.Present.{present, repacked}
use Rattle.layout.proofs.HeldRows.{rows-most, row-held}
use Rattle.edits.specs.RowEdits.{Insertable, Replaceable, Removable}
use Rattle.edits.proofs.PackedChanges.{inserted-row, removed-row, replaced-row}
use Rattle.ledger.proofs.RowNumbers.{row-amount-low}
use Rattle.bill_refusals.specs.Requests.{RowHeld}
use Rattle.bill_calls.specs.Rows.{NewRow, RowAgain, Changed, billed, row_added, rebilled, row_replaced, cancelled, row_removed}

-- the row that is made of a bill and its amount
abbrev made : Bill → ℕ → Row
made x a = record { bill = x; amount = a }

-- ---- a row that keeps the ranges

module _ (cs : Contracts) (k : Contract) (x : Bill) (ok : RowOk rules cs (priced rules k x)) where
  pub row-rateable : Rateable x
  unfolding priced
  row-rateable = (bill-ranges _ x ok.ranges).rateable

  module _ (a : ℕ) (e : a ≡ by_terms amount k x) where
    is-priced : made x a ≡ priced rules k x
    unfolding priced
    is-priced = ap (made x) e

    made-fits : Fit row_record.widths (row_record.values (made x a))
    made-fits = subst (λ (y : Row). Fit row_record.widths (row_record.values y)) (sym is-priced) (row_fits cs (priced rules k x) ok)

    pub new-amount-low : a < 2 ^ 62
    new-amount-low = omega (arith, e, amount-bits (terms_for k x.first) x row-rateable)

-- ---- a row that is added

module _ (b : List ℕ) (rows place : ℕ) (k : Contract) (x : Bill) (new : NewRow b rows place k x) (a : ℕ) (e : a ≡ by_terms amount k x) where
  place_inside : place ≤ rows
  place_inside = omega (arith, new.at, new.searched.count, place-le (comes_after x.contract x.first) (facts b).rows)

  pub insertable : Insertable rows place (made x a)
  insertable = record { inside = place_inside; room = new.room; fits = made-fits (contracts b) k x new.row a e }

  pub row-added : (r : ℕ) → r ≡ by_terms rate k x → (after : List ℕ) → after ≡ on_part first_row (row_start (rows + 1)) (insert_at (place * row_length) (record_bytes row_record (made x a))) b
      → Changed (Billed x.reference r a) after (billed k x) (row_added (facts b) k x)
  unfolding priced sorts_after
  row-added r at-rate after put = record {
    answered = ap₂ (Billed x.reference) at-rate e;
    left = inserted-row (facts b) b after (sym (repacked b new.searched.formed)) rows place (priced rules k x) (sym new.searched.count) place_inside new.room
        (put ∙ ap (λ (y : Row). on_part first_row (row_start (rows + 1)) (insert_at (place * row_length) (record_bytes row_record y)) b) (is-priced (contracts b) k x new.row a e))
        ∙ ap (λ (xs : List Row). bytes (ledger_with_rows (facts b) xs)) (rw new.at (sym (insert-at (priced rules k x) (facts b).rows)));
  }

-- ---- a row that is held

module _ (b : List ℕ) (rows place c first : ℕ) (h : RowHeld b rows place c first) where
  inside : place < length (facts b).rows
  inside = omega (arith, h.held, h.searched.count)

  pub held-inside : place < row_count
  held-inside = omega (arith, inside, rows-most present b h.searched.formed)

  pub removable : Removable rows place
  removable = record { inside = h.held; count = omega (arith, h.searched.count, rows-most present b h.searched.formed) }

  module _ (old : Row) (e : old ≡ row_at b place) where
    pub old-amount-low : old.amount < 2 ^ 62
    unfolding Rattle.layout.specs.Check.row_at
    old-amount-low = let low : (record_of row_record (row_slot_at b place)).amount < 2 ^ 50 = row-amount-low b place in rw e (omega arith)

    old-amount : old.amount ≡ amount_of (named c first) (facts b).rows
    old-amount =
        ap (λ (y : Row). y.amount) (e ∙ row-held present b h.searched.formed place old inside)
        ∙ rw h.at (sym (amount-at (named c first) old (facts b).rows (rw h.at at inside)))

    pub row-removed : (after : List ℕ) (z : ℤ) → after ≡ on_part first_row (row_start rows) (remove_at (place * row_length) row_length) b → z ≡ sub_ℕ 0 old.amount
        → Changed (Cancelled z) after (cancelled (facts b) c first) (row_removed (facts b) c first)
    row-removed after z put change = record {
      answered = ap (λ (y : ℤ). Cancelled y) (change ∙ ap (sub_ℕ 0) old-amount);
      left = removed-row (facts b) b after (sym (repacked b h.searched.formed)) rows place (sym h.searched.count) h.held removable.count put
          ∙ ap (λ (xs : List Row). bytes (ledger_with_rows (facts b) xs)) (rw h.at (sym (remove-at (named c first) (facts b).rows)));
    }

-- ---- a row in place of another

module _ (b : List ℕ) (rows place : ℕ) (k : Contract) (x : Bill) (again : RowAgain b rows place k x) (a : ℕ) (e : a ≡ by_terms amount k x) where
  pub replaceable : Replaceable place (made x a)
  replaceable = let n = held-inside b rows place _ _ again.old in record { inside = n; fits = made-fits (contracts b) k x again.row a e }

  pub row-replaced : (r : ℕ) → r ≡ by_terms rate k x → (old : Row) → old ≡ row_at b place → (after : List ℕ) (z : ℤ) → after ≡ replace_at (row_start place) (record_bytes row_record (made x a)) b → z ≡ sub_ℕ a old.amount
      → Changed (Rebilled x.reference r z) after (rebilled (facts b) k x) (row_replaced (facts b) k x)
  row-replaced r at-rate old read after z put change =
      let was = old-amount b rows place _ _ again.old old read in
      let low = inside b rows place _ _ again.old in
      record {
        answered = ap₂ (Rebilled x.reference) at-rate (change ∙ ap₂ sub_ℕ e was);
        left = replaced-row (facts b) b after (sym (repacked b again.old.searched.formed)) place (priced rules k x) low (rows-most present b again.old.searched.formed)
            (put ∙ ap (λ (y : Row). replace_at (row_start place) (record_bytes row_record y) b) (is-priced (contracts b) k x again.row a e))
            ∙ ap (λ (xs : List Row). bytes (ledger_with_rows (facts b) xs)) (rw again.old.at (sym (replace-at (named x.contract x.first) (priced rules k x) (facts b).rows)));
      }
