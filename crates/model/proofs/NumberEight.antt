-- Number 8 turns down a bill or rebill whose kWh, S or WAP is out of range, where no earlier test fits, and no other call. Assumes nothing.
use mathlib.Core.Path.{◌≡◌, refl}
use mathlib.Core.Bool.{false}
use mathlib.Core.List.{List, [], ◌∷◌, ◌++◌}
use Prim.Native.Nat.{ℕ}
use lib.ListN.{drop}
use Rattle.basics.proofs.Tests.{not-no}
use Rattle.rates.specs.TermsTaken.{crosses_end}
use Rattle.model.specs.declared.Request.{Request}
use Rattle.model.specs.Calls.{View, Test, ◌if◌, first_of}
use Rattle.model.specs.PresentRules.{bad_book, bad_span, bad_months, bad_amounts, open_tests, request_tests}
use Rattle.model.specs.AcceptedCalls.{contract_named}
use Rattle.model.specs.NumberEight.{WrongAmountsGiven, NumberEight}
use Rattle.model.proofs.Refusals.{fits_any, clear, only-place}
use Rattle.model.proofs.RequestNumbers.{of-request}

module _ (v : View) (q : Request) (book : List ℕ) where
  -- the tests before number 8
  abbrev earlier : List Test
  earlier =
      (3 if bad_book book)
      ∷ open_tests v q.contract
      ++ ((7 if bad_span q.first q.last)
      ∷ (15 if bad_months (contract_named v q).kind q.first q.last)
      ∷ (17 if crosses_end (contract_named v q).amendment q.first q.last)
      ∷ [])

  given : (later : List Test) → fits_any later 8 ≡ false → first_of (earlier ++ ((8 if bad_amounts (contract_named v q) q) ∷ later)) ≡ 8 → WrongAmountsGiven v q book
  unfolding open_tests
  given later none e =
      let found = only-place earlier 7 _ later refl none e in
      let p = clear earlier tt found.0 in
      record { span = record { right = record { prices = p 3; number = p 4; opened = not-no _ (p 5); days = p 7 }; months = p 15; inside = p 17 }; amounts = found.1 }

pub number_eight : NumberEight
unfolding request_tests open_tests
number_eight = of-request 7 WrongAmountsGiven
    (λ v q book later none. (given v q book (drop 7 (request_tests v q book) ++ later) none, λ t. rw (t.span.right.prices, t.span.right.number, t.span.right.opened, t.span.right.days, t.span.months, t.span.inside, t.amounts)))
    (record { not-4 = refl; not-5 = refl; not-6 = refl; not-7 = refl; not-9 = refl; not-10 = refl; not-11 = refl; not-12 = refl; not-13 = refl; not-16 = refl; not-18 = refl })
