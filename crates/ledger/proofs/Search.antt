-- The rows of a well-formed ledger searched for the first that passes a test: one after the other, and by halves. Assumes nothing.
use mathlib.Core.Path.{◌≡◌, refl, sym, ap, ap₂, ◌∙◌}
use mathlib.Core.Bool.{Bool, true, false, cond, true≢false}
use mathlib.Core.List.{List, [], ◌∷◌}
use Prim.Native.Nat.{ℕ, zero, suc, ◌+◌, ◌≤◌, ◌<◌}
use native.Mathlib.Nat.{not-suc-le-zero, le_of_suc-le-suc}
use native.Mathlib.Omega.{arith}
use lib.Dec.{ltb}
use lib.ListN.{length, drop, get_or}
use lib.Seq.{drop-cons}
use Rattle.basics.specs.Lists.{All}
use Rattle.basics.proofs.Tests.{either, lt_yes, lt_no}
use Rattle.amounts.specs.declared.Bill.{Bill}
use Rattle.model.specs.declared.Row.{Row}
use Rattle.model.specs.Calls.{named, ends_after}
use Rattle.model.specs.Ledger.{view}
use Rattle.model.specs.Places.{place_of, first_passes, reaches}
use Rattle.model.specs.WellFormed.{Apart}
use Rattle.model.proofs.Places.{place-le, passes-at-place}
use Rattle.model.proofs.RowOrder.{Span}
use Rattle.model.proofs.RowBounds.{row-spans}
use Rattle.model.proofs.SortedRows.{passed-row, failed_row, reaches-rising, named-place, ends_at}
use Rattle.layout.specs.Present.{facts, row_at, Searched}
use Rattle.layout.proofs.Present.{present, facts-kept}
use Rattle.ledger.specs.Answered.{view_of}
use Rattle.ledger.proofs.EachRow.{row-there, row_read}

none-beyond : (q : Bill → Bool) (xs : List Row) (i : ℕ) → length xs ≤ i → false ≡ first_passes q (drop i xs)
none-beyond q [] zero h = refl
none-beyond q [] (suc i) h = refl
none-beyond q (x ∷ xs) zero h = absurd (not-suc-le-zero h)
none-beyond q (x ∷ xs) (suc i) h = none-beyond q xs i (le_of_suc-le-suc h)

-- the rows are in order, apart, and of spans
module _ (b : List ℕ) (rows : ℕ) (s : Searched b rows) where
  pub spans : All Span (facts b).rows
  spans = row-spans present.rules (facts b).contracts (facts b).rows (facts-kept b s.formed).rows

  pub apart : Apart (facts b).rows
  apart = (facts-kept b s.formed).apart

-- the place of the first row that passes the test is not before `low` and not after `high`
pub record Between (b : List ℕ) (p : Bill → Bool) (low high : ℕ) : Type 0 where
  pub from : low ≤ place_of p (facts b).rows
  pub to : place_of p (facts b).rows ≤ high

module _ (b : List ℕ) (rows : ℕ) (s : Searched b rows) where
  pub search-begins : (p : Bill → Bool) → Between b p 0 rows
  search-begins p = record { from = omega arith; to = omega (arith, s.count, place-le p (facts b).rows) }

  -- row i passes, or doesn't; x is its bill
  module _ (p : Bill → Bool) (low high i : ℕ) (t : Between b p low high) (x : Bill) (read : x ≡ (row_at b i).bill) (r : Bool) (e : r ≡ p x) (h : i < rows) where
    abbrev row : Row
    row = row_at b i

    there : r ≡ p (get_or (facts b).rows i row).bill
    there = e ∙ ap p read ∙ ap (λ (y : Row). p y.bill) (row_read b rows i s h row refl)

    pub row-passes : r ≡ true → Between b p low i
    row-passes y = record { from = t.from; to = passed-row p (facts b).rows row i (sym there ∙ y) }

    -- every row before i having failed
    pub row-fails : i ≤ low → r ≡ false → Between b p (i + 1) high
    row-fails k n = record { from = either (ltb i (place_of p (facts b).rows)) (λ l. let m = lt_yes i (place_of p (facts b).rows) l in omega arith) past; to = t.to }
      where
        past : ltb i (place_of p (facts b).rows) ≡ false → i + 1 ≤ place_of p (facts b).rows
        past l =
            let m : place_of p (facts b).rows ≡ i = omega (arith, lt_no i (place_of p (facts b).rows) l, t.from) in
            let c = passes-at-place p row (facts b).rows (omega (arith, s.count)) in
            absurd (true≢false (sym (ap (λ (n : ℕ). p (get_or (facts b).rows n row).bill) (sym m) ∙ c) ∙ sym there ∙ n))

  -- by halves
  module _ (contract day low high i : ℕ) (t : Between b (reaches contract day) low high) (x : Bill) (read : x ≡ (row_at b i).bill) (r : Bool) (e : r ≡ reaches contract day x) (h : i < rows) where
    pub upper-half : r ≡ false → Between b (reaches contract day) (i + 1) high
    upper-half n =
        let m = failed_row (reaches contract day) (facts b).rows (reaches-rising contract day (facts b).rows (spans b rows s) (apart b rows s)) (row_at b i) i (row-there b rows i s h) (sym (there (reaches contract day) low high i t x read r e h) ∙ n) in
        record { from = omega arith; to = t.to }

  -- ---- the first of the rows from place i on

  pub first-none : (q : Bill → Bool) (i : ℕ) → rows ≤ i → false ≡ first_passes q (drop i (facts b).rows)
  first-none q i h = none-beyond q (facts b).rows i (omega (arith, s.count))

  pub first-there : (q : Bill → Bool) (i : ℕ) (x : Bill) → x ≡ (row_at b i).bill → i < rows → (r : Bool) → r ≡ q x → r ≡ first_passes q (drop i (facts b).rows)
  first-there q i x read h r e =
      e ∙ ap q read ∙ ap (λ (y : Row). q y.bill) (row_read b rows i s h (row_at b i) refl) ∙ sym (ap (first_passes q) (drop-cons (facts b).rows i (row_at b i) (row-there b rows i s h)))

  -- ---- the row with a contract and first day

  module _ (contract first place : ℕ) (at : place ≡ place_of (reaches contract first) (facts b).rows) where
    named_by : (r : Bool) → r ≡ first_passes (named contract first) (drop place (facts b).rows) → cond r place rows ≡ place_of (named contract first) (facts b).rows
    named_by r e =
        ap₂ (λ (t : Bool) (n : ℕ). cond t place n) (e ∙ ap (λ (n : ℕ). first_passes (named contract first) (drop n (facts b).rows)) at) s.count
        ∙ ap (λ (n : ℕ). cond (first_passes (named contract first) (drop (place_of (reaches contract first) (facts b).rows) (facts b).rows)) n (length (facts b).rows)) at
        ∙ sym (named-place contract first (facts b).rows (spans b rows s) (apart b rows s))

    pub named_none : rows ≤ place → rows ≡ place_of (named contract first) (facts b).rows
    named_none h = named_by false (first-none (named contract first) place h)

    module _ (h : place < rows) (x : Bill) (read : x ≡ (row_at b place).bill) (r : Bool) (e : r ≡ named contract first x) where
      pub named-there : r ≡ true → place ≡ place_of (named contract first) (facts b).rows
      named-there y = named_by true (sym y ∙ first-there (named contract first) place x read h r e)

      pub named_other : r ≡ false → rows ≡ place_of (named contract first) (facts b).rows
      named_other n = named_by false (sym n ∙ first-there (named contract first) place x read h r e)

-- ---- a row of a contract that ends after a day

module _ (b : List ℕ) (rows : ℕ) (s : Searched b rows) (contract day place : ℕ) (at : place ≡ place_of (reaches contract (day + 1)) (facts b).rows) where
  ended_by : (r : Bool) → r ≡ first_passes (ends_after contract day) (drop place (facts b).rows) → r ≡ ltb 0 ((view_of b).held (ends_after contract day))
  unfolding view
  ended_by r e =
      e ∙ ap (λ (n : ℕ). first_passes (ends_after contract day) (drop n (facts b).rows)) at
      ∙ sym (ends_at contract day (facts b).rows (spans b rows s) (apart b rows s))

  pub none-ends : rows ≤ place → false ≡ ltb 0 ((view_of b).held (ends_after contract day))
  none-ends h = ended_by false (first-none b rows s (ends_after contract day) place h)

  pub first_ends : (x : Bill) → x ≡ (row_at b place).bill → place < rows → (r : Bool) → r ≡ ends_after contract day x → r ≡ ltb 0 ((view_of b).held (ends_after contract day))
  first_ends x read h r e = ended_by r (first-there b rows s (ends_after contract day) place x read h r e)

pub search-ends : (b : List ℕ) (p : Bill → Bool) (low high : ℕ) → Between b p low high → high ≤ low → low ≡ place_of p (facts b).rows
search-ends b p low high t h = omega (arith, t.from, t.to)
