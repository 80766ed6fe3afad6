-- What is requested and where its row is placed, by the first test that fits; and what each outcome says of the tests. Assumes nothing.
use Rattle.std.specs.Prelude.{Option, Some, None, IfSome, unwrap_or, ok_or}
use mathlib.Core.Path.{◌≡◌, sym, ap, ap₂, ◌∙◌}
use mathlib.Core.Bool.{Bool, true, false, not, cond, ◌&&◌}
use mathlib.Core.List.{List}
use Prim.Native.Nat.{ℕ, suc, ◌+◌, ◌≤◌, ◌<◌}
use native.Mathlib.Numerals.{add-one}
use native.Mathlib.Omega.{arith}
use lib.Dec.{ltb}
use lib.ListN.{drop}
use borrow.Author.Tests.{le-ltb, lt-ltb}
use Rattle.refusals.specs.declared.Refusal.TheVariants.{NoSuchRow}
use Rattle.refusals.specs.Numbers.{refusal_in}
use Rattle.basics.proofs.Lists.{count-true}
use Rattle.amounts.specs.declared.Bill.{Bill}
use Rattle.model.specs.Calls.{named, sharing}
use Rattle.model.specs.Ledger.{view}
use Rattle.model.specs.Places.{place_of, first_passes, reaches}
use Rattle.model.proofs.Places.{count_at}
use Rattle.model.proofs.SortedRows.{shares_at, named-found, others-share}
use Rattle.layout.specs.Present.{Searched, facts}
use Rattle.ledger.specs.Answered.{view_of}
use Rattle.ledger.proofs.Search.{spans, apart}
use Rattle.bill_refusals.specs.Requests.{RowHeld}

-- ---- the held rows, by what was found in the packed ledger

module _ (b : List ℕ) (rows : ℕ) (s : Searched b rows) where
  row-found : (p : Bill → Bool) (place : ℕ) → place ≡ place_of p (facts b).rows → ltb place rows ≡ ltb 0 ((view_of b).held p)
  unfolding view
  row-found p place e = ap₂ (λ (m n : ℕ). ltb m n) e s.count ∙ sym (count_at p (facts b).rows)

  no_row : (p : Bill → Bool) (place : ℕ) → place ≡ place_of p (facts b).rows → rows ≤ place → not (ltb 0 ((view_of b).held p)) ≡ true
  no_row p place e h = ap not (sym (row-found p place e) ∙ le-ltb place rows h)

  a-row : (p : Bill → Bool) (place : ℕ) → place ≡ place_of p (facts b).rows → place < rows → not (ltb 0 ((view_of b).held p)) ≡ false
  a-row p place e h = ap not (sym (row-found p place e) ∙ lt-ltb place rows h)

  pub held_all : (view_of b).held (λ x. true) ≡ rows
  unfolding view
  held_all = count-true (facts b).rows ∙ sym s.count

  -- the row with a contract and first day, which is found or not
  pub named-refusal : (contract first : ℕ) (found : Option ℕ) → unwrap_or found rows ≡ place_of (named contract first) (facts b).rows → IfSome found (λ i. i < rows)
      → refusal_in (ok_or found NoSuchRow) ≡ cond (not (ltb 0 ((view_of b).held (named contract first)))) 9 0
  named-refusal contract first None e h = sym (ap (λ (t : Bool). cond t 9 0) (no_row (named contract first) rows e (omega arith)))
  named-refusal contract first (Some i) e h = sym (ap (λ (t : Bool). cond t 9 0) (a-row (named contract first) i e h))

  -- a row shares a day with a span just where the first that reaches the span's first day does
  pub day-shared : (contract first last place : ℕ) → place ≡ place_of (reaches contract first) (facts b).rows
      → (r : Bool) → r ≡ first_passes (sharing contract first last) (drop place (facts b).rows) → r ≡ ltb 0 ((view_of b).held (sharing contract first last))
  unfolding view
  day-shared contract first last place at r e =
      e ∙ ap (λ (n : ℕ). first_passes (sharing contract first last) (drop n (facts b).rows)) at ∙ sym (shares_at contract first last (facts b).rows (spans b rows s) (apart b rows s))

-- another row than the one named does just where the next one does
pub other-shared : (b : List ℕ) (rows place contract first last : ℕ) → RowHeld b rows place contract first
    → (r : Bool) → r ≡ first_passes (sharing contract first last) (drop (place + 1) (facts b).rows)
    → r ≡ ltb 0 ((view_of b).held (λ x. sharing contract first last x && not (named contract first x)))
unfolding view
other-shared b rows place contract first last h r e =
    let s = h.searched in
    let found = named-found contract first (facts b).rows (spans b rows s) (apart b rows s) (omega (arith, h.at, h.held, s.count)) in
    e
    ∙ ap (λ (n : ℕ). first_passes (sharing contract first last) (drop n (facts b).rows)) (add-one place ∙ ap suc (h.at ∙ found.0))
    ∙ sym (others-share contract first last (facts b).rows (spans b rows s) (apart b rows s) found.1)
