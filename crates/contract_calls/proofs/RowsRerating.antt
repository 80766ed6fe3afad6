-- The rows of a ledger re-rated one after the other. Assumes nothing.
use Rattle.std.specs.Prelude.{Option}
use mathlib.Core.Path.{◌≡◌, refl, sym, ap, ap₂, ◌∙◌, subst}
use mathlib.Core.Logic.{◌≢◌}
use mathlib.Core.Bool.{true, cond}
use mathlib.Core.List.{List, map}
use Prim.Native.Nat.{ℕ, ◌+◌, ◌*◌, ◌^◌, ◌<◌, ◌≤◌}
use native.Mathlib.Omega.{arith}
use lib.Dec.{eqb}
use lib.IntN.{sub_ℕ}
use lib.ListN.{length, take, drop}
use lib.Seq.{drop-drop}
use Rattle.limits.specs.Limits.{row_count}
use Rattle.basics.specs.Lists.{total}
use Rattle.basics.proofs.Tests.{either, eq_yes, yes-eq, eq_no}
use Rattle.basics.proofs.Lists.{all-at, total-cong, total-split, total-map}
use Rattle.basics.proofs.Integers.{sub_same}
use Rattle.basics.proofs.FirstMapped.{first_mapped, length-first, first_next}
use Rattle.records.specs.Edits.{replace_at}
use Rattle.records.specs.OneSlot.{record_bytes, IsPacked}
use Rattle.records.proofs.Replaced.{replaced-rest, replaced-length}
use Rattle.rates.specs.declared.Kind.{Kind}
use Rattle.rates.specs.declared.Amendment.{Amendment}
use Rattle.rates.specs.declared.Contract.{Contract}
use Rattle.rates.specs.TermsTaken.{kind_taken, terms_for}
use Rattle.amounts.specs.Amounts.{has_shares, amount, by_terms}
use Rattle.amounts.proofs.Shares.{amount-set-aside}
use Rattle.amounts.proofs.AmountBounds.{highest_amount, amount-low}
use Rattle.model.specs.declared.Row.{Row}
use Rattle.model.specs.OpenContracts.{Contracts, contract_at}
use Rattle.model.specs.Rules.{part_of_due}
use Rattle.model.specs.Ledger.{of_contract, ledger_with_rows, rerated}
use Rattle.model.specs.Places.{place_of, reaches}
use Rattle.model.specs.WellFormed.{RowOk}
use Rattle.model.proofs.PresentRules.{bill-ranges}
use Rattle.model.proofs.RowBounds as bounds
use Rattle.model.proofs.SortedRows.{same-before, same_after}
use Rattle.layout.specs.Layout.{ledger_of}
use Rattle.layout.specs.PresentLayout.{row_record}
use Rattle.layout.specs.Offsets.{ledger_length, row_start, row_length}
use Rattle.layout.specs.Present.{rules, facts, contracts, bytes, row_at, Formed, Searched}
use Rattle.layout.proofs.Present.{present, formed-length, facts-kept, repacked}
use Rattle.layout.proofs.HeldRows.{rows-most}
use Rattle.edits.proofs.PackedChanges.{length-row, replaced-row}
use Rattle.ledger.proofs.EachRow.{row_inside, row-there, row_read, SummedTo, summed-next, summed-most}
use Rattle.ledger.proofs.Search.{spans, apart}
use Rattle.ledger.proofs.ContractRows.{for_contract, others-weightless, below_end, own-contract, summed-begins, summed-ends}
use Rattle.contract_calls.specs.declared.rerating.Rerated.{Rerated}
use Rattle.contract_calls.specs.Rerating.{Rerateable, RowInSlot, new_amount, amount_changes, RowRerated, RowsRerated}
use Rattle.contract_calls.proofs.RowsInSlots.{same_row, row-packed}
use Rattle.contract_calls.proofs.RowRerating.{other_row, own_row, unchanged}

-- ---- rows of other contracts stay as they are

module _ (contract : ℕ) (certified : Contract) where
  others-unchanged : (x : Row) → x.bill.contract ≢ contract → ◌≡◌ {A = ℕ} (cond (amount_changes contract certified x) 1 0) 0
  others-unchanged x n = sym (unchanged _ _ (ap (λ (y : Row). y.amount) (other_row contract certified x n)))

  -- ---- amounts under any contract are low enough for their sums

  new-amount-most : (cs : Contracts) (x : Row) → RowOk rules cs x → new_amount contract certified x ≤ highest_amount
  new-amount-most cs x o =
      either (eqb x.bill.contract contract)
      (λ e. omega (arith, ap (λ (y : Row). y.amount) (own_row contract certified x (eq_yes _ _ e)), amount-low (terms_for certified x.bill.first) x.bill (bill-ranges _ x.bill o.ranges).rateable))
      (λ e. omega (arith, ap (λ (y : Row). y.amount) (other_row contract certified x (eq_no _ _ e)), bounds.amount-low present.rules o))

  module _ (b : List ℕ) (f : Formed b) where
    -- the sums of the contract's amounts, and of all
    abbrev own_old : ℕ
    own_old = total (for_contract contract (λ x. x.amount)) (facts b).rows

    abbrev own_new : ℕ
    own_new = total (for_contract contract (new_amount contract certified)) (facts b).rows

    abbrev all_old : ℕ
    all_old = total (λ x. x.amount) (facts b).rows

    abbrev all_new : ℕ
    all_new = total (λ x. x.amount) (map (rerated rules contract certified) (facts b).rows)

    pub old-sum-most : own_old ≤ row_count * highest_amount
    old-sum-most = bounds.passing-most (facts-kept b f) (of_contract contract) _ highest_amount (λ x o. bounds.amount-low present.rules o)

    pub new-sum-most : own_new ≤ row_count * highest_amount
    new-sum-most = bounds.passing-most (facts-kept b f) (of_contract contract) _ highest_amount (new-amount-most (facts b).contracts)

    -- the contract's change is that of all rows: the others' amounts stay
    other-amount : (x : Row) → cond (of_contract contract x) 0 (new_amount contract certified x) ≡ cond (of_contract contract x) 0 x.amount
    other-amount x = either (of_contract contract x) (λ y. rw y) (λ n. rw n (ap (λ (y : Row). y.amount) (other_row contract certified x (eq_no _ _ n))))

    pub sums-change : sub_ℕ own_new own_old ≡ sub_ℕ all_new all_old
    sums-change =
        let others = total-cong _ _ other-amount (facts b).rows in
        let old = total-split (of_contract contract) (λ x. x.amount) (facts b).rows in
        let new = total-split (of_contract contract) (new_amount contract certified) (facts b).rows in
        let mapped = total-map (λ x. x.amount) (rerated rules contract certified) (facts b).rows in
        sub_same own_new own_old all_new all_old (omega arith)

-- ---- the rows, one after the other

-- a held row is as a well-formed ledger asks
row_kept : (b : List ℕ) (rows i : ℕ) → Searched b rows → i < rows → RowOk rules (facts b).contracts (row_at b i)
row_kept b rows i s h = rw (row_read b rows i s h (row_at b i) refl) (all-at (RowOk rules (facts b).contracts) (facts b).rows (row_at b i) (facts-kept b s.formed).rows i (row-there b rows i s h))

-- the pass at row i of the ledger b₀: the bytes, and what was found
pub record Passed (b₀ : List ℕ) (contract : ℕ) (certified : Contract) (i : ℕ) (b : List ℕ) (sums : Rerated) : Type 0 where
  pub long : length b ≡ ledger_length
  pub from : place_of (reaches contract 0) (facts b₀).rows ≤ i
  pub left : b ≡ bytes (ledger_with_rows (facts b₀) (first_mapped (rerated rules contract certified) i (facts b₀).rows))
  pub rest : drop (row_start i) b ≡ drop (row_start i) b₀
  pub olds : SummedTo (for_contract contract (λ x. x.amount)) (facts b₀).rows i sums.old
  pub news : SummedTo (for_contract contract (new_amount contract certified)) (facts b₀).rows i sums.new
  pub changes : SummedTo (λ x. cond (amount_changes contract certified x) 1 0) (facts b₀).rows i sums.changed

module _ (b₀ : List ℕ) (rows contract : ℕ) (certified : Contract) (t : Rerateable b₀ rows contract certified) where
  abbrev f : Row → Row
  f = rerated rules contract certified

  abbrev xs : List Row
  xs = (facts b₀).rows

  abbrev s : Searched b₀ rows
  s = t.searched

  pub none_passed : (i : ℕ) → i ≡ place_of (reaches contract 0) (facts b₀).rows → (sums : Rerated) → (sums.old ≡ 0) × ((sums.new ≡ 0) × (sums.changed ≡ 0)) → Passed b₀ contract certified i b₀ sums
  none_passed i e sums z = record {
    long = formed-length b₀ s.formed;
    from = omega arith;
    left = sym (ap (λ (ys : List Row). bytes (ledger_with_rows (facts b₀) ys)) (ap (λ (n : ℕ). first_mapped f n xs) e ∙ same-before contract xs (spans b₀ rows s) (apart b₀ rows s) f (other_row contract certified)) ∙ repacked b₀ s.formed);
    rest = refl;
    olds = rw z.0 (summed-begins b₀ rows s contract _ (others-weightless contract (λ x. x.amount)) i e);
    news = rw z.1.0 (summed-begins b₀ rows s contract _ (others-weightless contract (new_amount contract certified)) i e);
    changes = rw z.1.1 (summed-begins b₀ rows s contract _ (others-unchanged contract certified) i e);
  }

  module _ (i : ℕ) (b : List ℕ) (sums : Rerated) (p : Passed b₀ contract certified i b sums) where
    module _ (end : ℕ) (ends : end ≡ place_of (reaches (contract + 1) 0) (facts b₀).rows) where
      -- ---- one row more

      module _ (h : i < end) where
        held : i < rows
        held = below_end b₀ rows s contract end ends i h

        row : row_at b i ≡ row_at b₀ i
        row = same_row b b₀ i p.rest

        own : (row_at b₀ i).bill.contract ≡ contract
        own = own-contract b₀ rows s contract end ends i p.from h (row_at b₀ i) refl

        kept : RowOk rules (facts b₀).contracts (row_at b₀ i)
        kept = row_kept b₀ rows i s held

        stays : has_shares (row_at b₀ i).bill ≡ true → by_terms amount certified (row_at b₀ i).bill ≡ (row_at b₀ i).amount
        unfolding part_of_due ledger_of terms_for
        stays some =
            let first : ℕ = (row_at b₀ i).bill.first in
            let k = contract_at (contracts b₀) contract in
            amount-set-aside (terms_for certified first) (terms_for k first) (row_at b₀ i).bill some t.fuel (ap₂ (λ (a : Option Amendment) (kind : Kind). kind_taken a kind first) t.amendment t.kind)
            ∙ ap (λ (c : ℕ). by_terms amount (contract_at (contracts b₀) c) (row_at b₀ i).bill) (sym own) ∙ sym kept.part

        pub next-slot : RowInSlot b i contract certified
        next-slot = record {
          inside = row_inside b₀ rows i s held;
          packed = subst (λ (d : List ℕ). IsPacked row_record (take row_length d)) (sym p.rest) (row-packed b₀ rows i s held);
          own = rw row own;
          rateable = rw row (bill-ranges _ (row_at b₀ i).bill kept.ranges).rateable;
          set_aside = rw row stays;
        }

        module _ (r : Rerated) (after : List ℕ) (u : RowRerated contract certified b i r after) where
          next-sum : {w : Row → ℕ} {m : ℕ} → SummedTo w xs i m → SummedTo w xs (i + 1) (m + w (row_at b₀ i))
          next-sum m = summed-next m (row_at b₀ i) (row_at b₀ i) (row-there b₀ rows i s held) (row_read b₀ rows i s held (row_at b₀ i) refl)

          for-own : (w : Row → ℕ) → for_contract contract w (row_at b₀ i) ≡ w (row_at b₀ i)
          for-own w = rw (yes-eq (row_at b₀ i).bill.contract contract own)

          pub row-passed : Passed b₀ contract certified (i + 1) after (record { old = sums.old + r.old; new = sums.new + r.new; changed = sums.changed + r.changed })
          row-passed =
              let x : Row = row_at b₀ i in
              let at : ℕ = row_start i in
              let put : after ≡ replace_at at (record_bytes row_record (f x)) b = u.left ∙ ap (λ (y : Row). replace_at at (record_bytes row_record (f y)) b) row in
              let inside : at + length (record_bytes row_record (f x)) ≤ length b = omega (arith, length-row (f x), p.long, row_inside b₀ rows i s held) in
              let next : row_start (i + 1) ≡ at + length (record_bytes row_record (f x)) = omega (arith, length-row (f x)) in
              let few = length-first f i xs in
              record {
                long = ap length put ∙ replaced-length at (record_bytes row_record (f x)) b inside ∙ p.long;
                from = omega (arith, p.from);
                left =
                    replaced-row (ledger_with_rows (facts b₀) (first_mapped f i xs)) b after p.left i (f x) (omega (arith, row-there b₀ rows i s held)) (omega (arith, rows-most present b₀ s.formed)) put
                    ∙ ap (λ (ys : List Row). bytes (ledger_with_rows (facts b₀) ys)) (rw (row_read b₀ rows i s held x refl) (first_next f i xs x (row-there b₀ rows i s held)));
                rest =
                    ap₂ (λ (n : ℕ) (d : List ℕ). drop n d) next put ∙ replaced-rest at (record_bytes row_record (f x)) b inside
                    ∙ sym (drop-drop (length (record_bytes row_record (f x))) at b) ∙ ap (drop (length (record_bytes row_record (f x)))) p.rest ∙ drop-drop (length (record_bytes row_record (f x))) at b₀ ∙ ap (λ (n : ℕ). drop n b₀) (sym next);
                olds = rw (u.old, row, ← for-own (λ y. y.amount)) (next-sum p.olds);
                news = rw (u.new, row, ← for-own (new_amount contract certified)) (next-sum p.news);
                changes = rw (u.changed, row) (next-sum p.changes);
              }

          pub old-fits : sums.old + r.old < 2 ^ 64
          old-fits = omega (arith, summed-most row-passed.olds, old-sum-most contract certified b₀ s.formed)

          pub new-fits : sums.new + r.new < 2 ^ 64
          new-fits = omega (arith, summed-most row-passed.news, new-sum-most contract certified b₀ s.formed)

          pub changed-fits : sums.changed + r.changed < 2 ^ 32
          changed-fits = omega (arith, summed-most row-passed.changes, bounds.count_low (facts-kept b₀ s.formed) (amount_changes contract certified))

      -- ---- all rows of the contract

      pub all-passed : end ≤ i → RowsRerated contract certified b₀ sums b
      all-passed h = record {
        old = summed-ends b₀ rows s contract _ (others-weightless contract (λ x. x.amount)) i end ends h p.olds;
        new = summed-ends b₀ rows s contract _ (others-weightless contract (new_amount contract certified)) i end ends h p.news;
        changed = summed-ends b₀ rows s contract _ (others-unchanged contract certified) i end ends h p.changes;
        left = p.left ∙ ap (λ (ys : List Row). bytes (ledger_with_rows (facts b₀) ys)) (same_after contract xs (spans b₀ rows s) (apart b₀ rows s) f (other_row contract certified) i (omega arith));
      }
