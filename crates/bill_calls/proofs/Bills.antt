-- A bill, rebill or cancellation, from what its request and the place of its row came to. Assumes nothing.
use Rattle.std.specs.Prelude.{Ok, Err}
use mathlib.Core.Path.{◌≡◌, refl, sym, ap, ◌∙◌}
use mathlib.Core.Bool.{not}
use mathlib.Core.List.{List, [], ◌∷◌, ◌++◌}
use Prim.Native.Nat.{ℕ}
use native.Mathlib.Omega.{arith}
use lib.Dec.{T, ltb}
use Rattle.refusals.specs.declared.Refusal.{Refusal}
use Rattle.refusals.specs.Numbers.{number_of}
use Rattle.refusals.proofs.SomeNumber.{some_number}
use Rattle.rates.specs.declared.Contract.{Contract}
use Rattle.amounts.specs.declared.Bill.{Bill}
use Rattle.model.specs.declared.Answer.{Answer}
use Rattle.model.specs.declared.Request.{Request}
use Rattle.model.specs.declared.Call.{Call}
use Rattle.model.specs.OpenContracts.{contract_at}
use Rattle.model.specs.Calls.{Test, ◌if◌, ◌with◌, first_of, named, requested_bill}
use Rattle.model.specs.Rules.{refusal}
use Rattle.model.specs.Ledger.{comes_after, view, priced, accept}
use Rattle.model.specs.PresentRules.{tests, open_tests, request_tests, new_row_tests, row_again_tests}
use Rattle.model.specs.Places.{place_of}
use Rattle.model.specs.WellFormed.{RowOk}
use Rattle.model.proofs.Refusals.{numbered, refused-first, refused-later}
use Rattle.model.proofs.RulesLaws.{Taken}
use Rattle.model.proofs.StaysWellFormed.{new_row}
use Rattle.layout.specs.Layout.{ledger_of}
use Rattle.layout.specs.Present.{Formed, Searched, rules, facts, contracts}
use Rattle.layout.proofs.Present.{present, facts-kept}
use Rattle.ledger.specs.Answered.{view_of, Answered, AnsweredWithAnyBook}
use Rattle.ledger.proofs.Refusals.{open-refused, open-passed, refused-answered, accepted-answered}
use Rattle.bill_refusals.specs.Requests.{RequestedBill, RowHeld}
use Rattle.bill_refusals.proofs.Requests.{held_all}
use Rattle.bill_calls.specs.Rows.{NewRow, RowAgain, Changed, billed, row_added, rebilled, row_replaced, cancelled, row_removed}

-- ---- bill and rebill

module _ (b : List ℕ) (q : Request) (book : List ℕ) where
  -- the tests of the request, and of its row
  abbrev early : List Test
  early = request_tests (view_of b) q book

  abbrev asked-bill : Bill
  asked-bill = requested_bill (view_of b).contracts q book

  request-numbered : T (numbered early)
  unfolding request_tests open_tests
  request-numbered = tt

  bill-refusal : first_of (early ++ new_row_tests (view_of b) asked-bill) ≡ refusal rules (view_of b) (Call.Bill q with book)
  unfolding refusal tests
  bill-refusal = refl

  rebill-refusal : first_of (early ++ row_again_tests (view_of b) asked-bill) ≡ refusal rules (view_of b) (Call.Rebill q with book)
  unfolding refusal tests
  rebill-refusal = refl

  -- the request was turned down
  module _ (r : Refusal) (f : Formed b) (e : number_of r ≡ first_of early) where
    early-refused : (ts : List Test) → number_of r ≡ first_of (early ++ ts)
    early-refused ts = refused-first early ts (number_of r) e (λ z. let low = some_number r in omega arith)

    pub bill-request-refused : Answered b (Call.Bill q with book) (Err r) b
    bill-request-refused = refused-answered b _ r f (early-refused (new_row_tests (view_of b) asked-bill) ∙ bill-refusal)

    pub rebill-request-refused : Answered b (Call.Rebill q with book) (Err r) b
    rebill-request-refused = refused-answered b _ r f (early-refused (row_again_tests (view_of b) asked-bill) ∙ rebill-refusal)

  -- the request is a bill under its contract
  module _ (k : Contract) (x : Bill) (none : 0 ≡ first_of early) (made : RequestedBill b q book k x) where
    pub contract-of : k ≡ contract_at (contracts b) x.contract
    unfolding requested_bill
    contract-of = rw made.bill made.contract

    later : (m : ℕ) (ts : Bill → List Test) → m ≡ first_of (ts x) → m ≡ first_of (early ++ ts asked-bill)
    unfolding view ledger_of
    later m ts h = refused-later early (ts asked-bill) m request-numbered none (h ∙ ap (λ (y : Bill). first_of (ts y)) made.bill)

    row_kept : Formed b → Taken rules (view_of b) q book → RowOk rules (contracts b) (priced rules k x)
    unfolding view ledger_of requested_bill
    row_kept f t = rw (made.bill, made.contract) (new_row rules present.rules (view_of b) q book (facts-kept b f).contracts t)

    -- its row turned down, of bill and of rebill
    pub bill-row-refused : (r : Refusal) → Formed b → number_of r ≡ first_of (new_row_tests (view_of b) x) → Answered b (Call.Bill q with book) (Err r) b
    bill-row-refused r f e = refused-answered b _ r f (later (number_of r) (new_row_tests (view_of b)) e ∙ bill-refusal)

    pub rebill-row-refused : (r : Refusal) → Formed b → number_of r ≡ first_of (row_again_tests (view_of b) x) → Answered b (Call.Rebill q with book) (Err r) b
    rebill-row-refused r f e = refused-answered b _ r f (later (number_of r) (row_again_tests (view_of b)) e ∙ rebill-refusal)

    -- its place, of bill
    module _ (i rows : ℕ) (s : Searched b rows) (e : 0 ≡ first_of (new_row_tests (view_of b) x)) (at : i ≡ place_of (comes_after x.contract x.first) (facts b).rows) where
      bill-passed : 0 ≡ refusal rules (view_of b) (Call.Bill q with book)
      bill-passed = later 0 (new_row_tests (view_of b)) e ∙ bill-refusal

      pub new-row-of : NewRow b rows i k x
      new-row-of = record {
        searched = s;
        row = row_kept s.formed (present.rules.bills (view_of b) q book (sym bill-passed));
        at = at;
        room = let m = present.rules.bill-room (view_of b) q book (sym bill-passed) in omega (arith, held_all b rows s);
      }

      pub bill-accepted : (said : Answer) (after : List ℕ) → Changed said after (billed k x) (row_added (facts b) k x) → Answered b (Call.Bill q with book) (Ok said) after
      unfolding accept view ledger_of priced
      bill-accepted said after c = accepted-answered b _ s.formed bill-passed (ap Ok c.answered ∙ rw (made.bill, made.contract)) (c.left ∙ rw (made.bill, made.contract))

    -- and of rebill
    module _ (i rows : ℕ) (s : Searched b rows) (e : 0 ≡ first_of (row_again_tests (view_of b) x)) (old : RowHeld b rows i x.contract x.first) where
      rebill-passed : 0 ≡ refusal rules (view_of b) (Call.Rebill q with book)
      rebill-passed = later 0 (row_again_tests (view_of b)) e ∙ rebill-refusal

      pub row-again-of : RowAgain b rows i k x
      row-again-of = record { row = row_kept s.formed (present.rules.rebills (view_of b) q book (sym rebill-passed)); old = old }

      pub rebill-accepted : (said : Answer) (after : List ℕ) → Changed said after (rebilled (facts b) k x) (row_replaced (facts b) k x) → Answered b (Call.Rebill q with book) (Ok said) after
      unfolding accept view ledger_of priced requested_bill
      rebill-accepted said after c = accepted-answered b _ s.formed rebill-passed (ap Ok c.answered ∙ rw (made.bill, made.contract)) (c.left ∙ rw (made.bill, made.contract))

-- ---- cancel

module _ (b : List ℕ) (rows contract first : ℕ) (s : Searched b rows) where
  abbrev row-there : Test
  row-there = 9 if not (ltb 0 ((view_of b).held (named contract first)))

  pub cancel-refused : (r : Refusal) → number_of r ≡ first_of (open_tests (view_of b) contract) → AnsweredWithAnyBook b (Call.Cancel contract first) (Err r) b
  unfolding refusal tests
  cancel-refused r e book = refused-answered b _ r s.formed (open-refused (view_of b) contract (number_of r) (row-there ∷ []) (some_number r) e)

  module _ (none : 0 ≡ first_of (open_tests (view_of b) contract)) where
    pub no-row-refused : (r : Refusal) → number_of r ≡ first_of (row-there ∷ []) → AnsweredWithAnyBook b (Call.Cancel contract first) (Err r) b
    unfolding refusal tests
    no-row-refused r e book = refused-answered b _ r s.formed (open-passed (view_of b) contract (number_of r) (row-there ∷ []) none e)

    pub cancel-accepted : 0 ≡ first_of (row-there ∷ []) → (said : Answer) (after : List ℕ) → Changed said after (cancelled (facts b) contract first) (row_removed (facts b) contract first)
        → AnsweredWithAnyBook b (Call.Cancel contract first) (Ok said) after
    unfolding refusal tests accept
    cancel-accepted e said after c book = accepted-answered b _ s.formed (open-passed (view_of b) contract 0 (row-there ∷ []) none e) (ap Ok c.answered) c.left
