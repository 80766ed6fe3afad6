-- Document 02, paper 2, "Variable bills within one month": "desks have sent quarters under the first month's price. From now such a bill or
-- rebill must start and end in one scheme month." So the R of each bill is the price of each of its days. Assumes nothing.
use Rattle.std.specs.Prelude.{◌≡◌, false, List, ◌↔◌, ℕ, ◌≤◌}
use Rattle.rates.specs.declared.Fuel.{Fuel}
use Rattle.rates.specs.declared.Kind.{Kind}
use Rattle.rates.specs.TermsTaken.{terms_for}
use Rattle.model.specs.OpenContracts.{contract_at}
use Rattle.model.specs.Book.{book_index, reference}
use Rattle.model.specs.declared.Call.{Call}
use Rattle.model.specs.declared.Request.{Request}
use Rattle.model.specs.Calls.{View, requested_bill, ◌with◌}
use Rattle.model.specs.Rules.{refusal}
use Rattle.model.specs.PresentRules.{bad_span, bad_months, present_rules}

-- R that the request has is the one that a bill from that day on would have
abbrev pub PriceOn : View → Request → (book : List ℕ) → (day : ℕ) → Type 0
PriceOn v q book day = (requested_bill v.contracts q book).reference ≡ reference (terms_for (contract_at v.contracts q.contract) day) day q.wap book

-- if the call of a request isn't turned down, R is the price of each day of the span
abbrev pub PricedOnEachDay : (Request → Call) → Type 0
PricedOnEachDay call =
    (v : View) (q : Request) (book : List ℕ) → refusal present_rules v (call q with book) ≡ 0 → (day : ℕ) → q.first ≤ day → day ≤ q.last → PriceOn v q book day

pub record PriceOfEveryDay : Type 0 where
  -- a span of the scheme passes number 15 just where each of its days has its price in the first day's entry of the book (a flexible
  -- contract, which reads none, has the same number for all days)
  pub one_entry : (fuel : Fuel) (kind : Kind) (first last : ℕ) → bad_span first last ≡ false
      → (bad_months kind first last ≡ false) ↔ ((day : ℕ) → first ≤ day → day ≤ last → book_index fuel kind day ≡ book_index fuel kind first)
  pub bills : PricedOnEachDay Call.Bill
  pub rebills : PricedOnEachDay Call.Rebill
