-- Number 15 turns down a bill or rebill whose span touches two months, where no earlier test fits, and no other call. Assumes nothing.
use mathlib.Core.Path.{◌≡◌, refl}
use mathlib.Core.Bool.{false}
use mathlib.Core.List.{List, [], ◌∷◌, ◌++◌}
use Prim.Native.Nat.{ℕ}
use lib.ListN.{drop}
use Rattle.basics.proofs.Tests.{not-no}
use Rattle.model.specs.declared.Request.{Request}
use Rattle.model.specs.Calls.{View, Test, ◌if◌, first_of}
use Rattle.model.specs.PresentRules.{bad_book, bad_span, bad_months, open_tests, request_tests}
use Rattle.model.specs.AcceptedCalls.{contract_named}
use Rattle.model.specs.NumberFifteen.{TwoMonthsGiven, NumberFifteen}
use Rattle.model.proofs.Refusals.{fits_any, clear, only-place}
use Rattle.model.proofs.RequestNumbers.{of-request}

module _ (v : View) (q : Request) (book : List ℕ) where
  -- the tests before number 15
  abbrev earlier : List Test
  earlier = (3 if bad_book book) ∷ open_tests v q.contract ++ ((7 if bad_span q.first q.last) ∷ [])

  given : (later : List Test) → fits_any later 15 ≡ false → first_of (earlier ++ ((15 if bad_months (contract_named v q).kind q.first q.last) ∷ later)) ≡ 15 → TwoMonthsGiven v q book
  unfolding open_tests
  given later none e =
      let found = only-place earlier 14 _ later refl none e in
      let p = clear earlier tt found.0 in
      record { right = record { prices = p 3; number = p 4; opened = not-no _ (p 5); days = p 7 }; months = found.1 }

pub number_fifteen : NumberFifteen
unfolding request_tests open_tests
number_fifteen = of-request 14 TwoMonthsGiven
    (λ v q book later none. (given v q book (drop 5 (request_tests v q book) ++ later) none, λ t. rw (t.right.prices, t.right.number, t.right.opened, t.right.days, t.months)))
    (record { not-4 = refl; not-5 = refl; not-6 = refl; not-7 = refl; not-9 = refl; not-10 = refl; not-11 = refl; not-12 = refl; not-13 = refl; not-16 = refl; not-18 = refl })
