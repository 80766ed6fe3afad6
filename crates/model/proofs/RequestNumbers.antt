-- A number that among all tests only those of the book and of the numbers given have turns down what it turns down of these, bill or rebill, and no
-- other call. Assumes nothing.
use mathlib.Core.Path.{◌≡◌, refl, sym, ◌∙◌}
use mathlib.Core.Bool.{false, false≢true}
use mathlib.Core.List.{List, [], ◌++◌}
use mathlib.Core.Logic.{◌↔◌}
use Prim.Native.Nat.{ℕ, suc}
use lib.Dec.{eqb}
use Rattle.model.specs.declared.Call.{Call}
use Rattle.model.specs.declared.Request.{Request}
use Rattle.model.specs.Calls.{CallWithBook, View, Test, first_of, requested_bill, ◌with◌}
use Rattle.model.specs.Rules.{refusal}
use Rattle.model.specs.PresentRules.{open_tests, request_tests, new_row_tests, row_again_tests, present_rules, tests}
use Rattle.model.specs.AcceptedCalls.{OfRequest}
use Rattle.model.proofs.Refusals.{fits_any, fits-first}

-- it is none of the numbers of a row's tests and of the other calls'
pub record Absent (n : ℕ) : Type 0 where
  pub not-4 : eqb 4 n ≡ false
  pub not-5 : eqb 5 n ≡ false
  pub not-6 : eqb 6 n ≡ false
  pub not-7 : eqb 7 n ≡ false
  pub not-9 : eqb 9 n ≡ false
  pub not-10 : eqb 10 n ≡ false
  pub not-11 : eqb 11 n ≡ false
  pub not-12 : eqb 12 n ≡ false
  pub not-13 : eqb 13 n ≡ false
  pub not-16 : eqb 16 n ≡ false
  pub not-18 : eqb 18 n ≡ false

module _ (n : ℕ) (P : View → Request → List ℕ → Type 0)
    (requests : (v : View) (q : Request) (book : List ℕ) (later : List Test) → fits_any later (suc n) ≡ false → (first_of (request_tests v q book ++ later) ≡ suc n) ↔ P v q book)
    (absent : Absent (suc n)) where
  bills : (v : View) (q : Request) (book : List ℕ) → (refusal present_rules v (Call.Bill q with book) ≡ suc n) ↔ P v q book
  unfolding refusal tests new_row_tests
  bills v q book = requests v q book (new_row_tests v (requested_bill v.contracts q book)) (rw (absent.not-10, absent.not-11, absent.not-12))

  rebills : (v : View) (q : Request) (book : List ℕ) → (refusal present_rules v (Call.Rebill q with book) ≡ suc n) ↔ P v q book
  unfolding refusal tests row_again_tests
  rebills v q book = requests v q book (row_again_tests v (requested_bill v.contracts q book)) (rw (absent.not-9, absent.not-10, absent.not-11))

  -- tests none of which has the number don't turn a call down by it
  not-by : (ts : List Test) → fits_any ts (suc n) ≡ false → first_of ts ≡ suc n → ⊥
  not-by ts h e = false≢true (sym h ∙ fits-first ts n e)

  turned-down : (v : View) (c : CallWithBook) → refusal present_rules v c ≡ suc n → OfRequest P v c
  unfolding refusal tests open_tests
  turned-down v (Call.Open c fuel kind fix entry with book) e = not-by (tests v (Call.Open c fuel kind fix entry with book)) (rw (absent.not-4, absent.not-5, absent.not-6, absent.not-7)) e
  turned-down v (Call.Bill q with book) e = (bills v q book).0 e
  turned-down v (Call.Rebill q with book) e = (rebills v q book).0 e
  turned-down v (Call.Cert c class effective with book) e = not-by (tests v (Call.Cert c class effective with book)) (rw (absent.not-4, absent.not-5, absent.not-6, absent.not-7)) e
  turned-down v (Call.Cancel c first with book) e = not-by (tests v (Call.Cancel c first with book)) (rw (absent.not-4, absent.not-5, absent.not-9)) e
  turned-down v (Call.Claim with book) e = not-by (tests v (Call.Claim with book)) (rw absent.not-13) e
  turned-down v (Call.Report c with book) e = not-by (tests v (Call.Report c with book)) (rw (absent.not-4, absent.not-5)) e
  turned-down v (Call.Total with book) e = not-by [] refl e
  turned-down v (Call.Amend c end fix entry with book) e =
      not-by (tests v (Call.Amend c end fix entry with book)) (rw (absent.not-4, absent.not-5, absent.not-16, absent.not-7, absent.not-18)) e

  by-number : (v : View) (c : CallWithBook) → OfRequest P v c → refusal present_rules v c ≡ suc n
  by-number v (Call.Open c fuel kind fix entry with book) t = absurd t
  by-number v (Call.Bill q with book) t = (bills v q book).1 t
  by-number v (Call.Rebill q with book) t = (rebills v q book).1 t
  by-number v (Call.Cert c class effective with book) t = absurd t
  by-number v (Call.Cancel c first with book) t = absurd t
  by-number v (Call.Claim with book) t = absurd t
  by-number v (Call.Report c with book) t = absurd t
  by-number v (Call.Total with book) t = absurd t
  by-number v (Call.Amend c end fix entry with book) t = absurd t

  pub of-request : (v : View) (c : CallWithBook) → (refusal present_rules v c ≡ suc n) ↔ OfRequest P v c
  of-request v c = (turned-down v c, by-number v c)
