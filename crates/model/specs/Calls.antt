-- Document 01, "Calls", with paper 5's amend: the calls of a history, what they answer, and what the refusals read. Assumes nothing.
use Rattle.std.specs.Prelude.{Bool, cond, ◌&&◌, List, [], ◌∷◌, ℕ, zero, suc, leb, ltb, eqb, ℤ, pos, length, Result, Ok, Err}
use Rattle.refusals.specs.Numbers.{number_in}
use Rattle.rates.specs.declared.Contract.{Contract}
use Rattle.rates.specs.TermsTaken.{terms_for}
use Rattle.amounts.specs.declared.Bill.{Bill}
use Rattle.model.specs.declared.Request.{Request}
use Rattle.model.specs.declared.Call.{Call}
use Rattle.model.specs.declared.Answer.{Answer}
use Rattle.model.specs.declared.Answer.TheVariants.{Done, Billed, Rebilled, Certified, Cancelled, Claimed, Reported, Totalled}
use Rattle.model.specs.declared.Reply.{Reply}
use Rattle.model.specs.OpenContracts.{Contracts, contract_at}
use Rattle.model.specs.Book.{reference}

-- a call of a history, with the book that it brings
infix 6 ◌with◌
pub data CallWithBook : Type 0 where
  ◌with◌ : Call → (book : List ℕ) → CallWithBook

-- the numbers of a bill or rebill in the paper's order
abbrev pub request_of : (contract first last kwh supply wap etii qhs : ℕ) → Request
request_of contract first last kwh supply wap etii qhs =
    record { contract = contract; first = first; last = last; kwh = kwh; supply = supply; wap = wap; etii = etii; qhs = qhs }

-- ---- answers

-- the paper's values of an accepted call's answer, in its order
abbrev pub values_of : Answer → List ℤ
values_of Done = []
values_of (Billed r rate amount) = pos r ∷ pos rate ∷ pos amount ∷ []
values_of (Rebilled r rate change) = pos r ∷ pos rate ∷ change ∷ []
values_of (Certified change rows) = change ∷ pos rows ∷ []
values_of (Cancelled change) = change ∷ []
values_of (Claimed pence rest) = pence ∷ pos rest ∷ []
values_of (Reported rows kwh due) = pos rows ∷ pos kwh ∷ pos due ∷ []
values_of (Totalled due unclaimed) = pos due ∷ unclaimed ∷ []

-- no answer has more values
abbrev pub answer_numbers : ℕ
answer_numbers = 3

-- the first n values, zeros after them to n
abbrev pub padded : ℕ → List ℤ → List ℤ
padded zero vs = []
padded (suc n) [] = pos 0 ∷ padded n []
padded (suc n) (v ∷ vs) = v ∷ padded n vs

-- the reply by the number of a refusal and the values
abbrev pub reply_of_values : ℕ → List ℤ → Reply
reply_of_values n vs = record { refused = n; count = length vs; numbers = padded answer_numbers vs }

-- the values that a call answers: a refused one none
abbrev pub values_in : Result Answer ℕ → List ℤ
values_in (Ok a) = values_of a
values_in (Err n) = []

-- the reply of a call; and one without numbers: a refusal by its number, which is 0 where nothing is answered but ok
abbrev pub reply_of : Result Answer ℕ → Reply
reply_of a = reply_of_values (number_in a) (values_in a)

abbrev pub reply_without_numbers : ℕ → Reply
reply_without_numbers n = reply_of_values n []

-- the customer's signed amount: the amount of bill, and the differences of rebill, cert and cancel, zero where refused
abbrev pub customer_amount : Result Answer ℕ → ℤ
customer_amount (Err n) = pos 0
customer_amount (Ok Done) = pos 0
customer_amount (Ok (Billed r rate amount)) = pos amount
customer_amount (Ok (Rebilled r rate change)) = change
customer_amount (Ok (Certified change rows)) = change
customer_amount (Ok (Cancelled change)) = change
customer_amount (Ok (Claimed pence rest)) = pos 0
customer_amount (Ok (Reported rows kwh due)) = pos 0
customer_amount (Ok (Totalled due unclaimed)) = pos 0

-- the pence that a claim answers
abbrev pub claim_pence : Result Answer ℕ → ℤ
claim_pence (Err n) = pos 0
claim_pence (Ok Done) = pos 0
claim_pence (Ok (Billed r rate amount)) = pos 0
claim_pence (Ok (Rebilled r rate change)) = pos 0
claim_pence (Ok (Certified change rows)) = pos 0
claim_pence (Ok (Cancelled change)) = pos 0
claim_pence (Ok (Claimed pence rest)) = pence
claim_pence (Ok (Reported rows kwh due)) = pos 0
claim_pence (Ok (Totalled due unclaimed)) = pos 0

-- ---- what the refusals read

-- a view, of which the ledger and the sheet each have their own: `held p` is how many rows (or bills) pass the test p
pub record View : Type 0 where
  pub territory : ℕ
  pub contracts : Contracts
  pub held : (Bill → Bool) → ℕ
  pub claims : ℕ

-- a bill with that contract and first day
unfoldable pub named : (contract first : ℕ) → Bill → Bool
named c first b = eqb b.contract c && eqb b.first first

-- a bill of that contract that shares a day with the span
unfoldable pub sharing : (contract first last : ℕ) → Bill → Bool
sharing c first last b = eqb b.contract c && (leb b.first last && leb first b.last)

-- a bill of that contract that ends after the day
unfoldable pub ends_after : (contract day : ℕ) → Bill → Bool
ends_after c day b = eqb b.contract c && ltb day b.last

-- a refusal: its number, and whether it fits
pub record Test : Type 0 where
  pub number : ℕ
  pub fits : Bool

infix 3 ◌if◌
abbrev pub ◌if◌ : ℕ → Bool → Test
n if b = record { number = n; fits = b }

-- the first number that fits, and 0 where none does
abbrev pub first_of : List Test → ℕ
first_of [] = 0
first_of (t ∷ ts) = cond t.fits t.number (first_of ts)

-- ---- what an accepted call brings

-- the bill of a bill or rebill under its contract: R from its own book or WAP, by the terms of its first day
abbrev pub bill_under : Contract → Request → (book : List ℕ) → Bill
bill_under k q book = record {
  contract = q.contract;
  first = q.first;
  last = q.last;
  kwh = q.kwh;
  etii = q.etii;
  qhs = q.qhs;
  reference = reference (terms_for k q.first) q.first q.wap book;
  supply = q.supply;
}

unfoldable pub requested_bill : Contracts → Request → (book : List ℕ) → Bill
requested_bill cs q book = bill_under (contract_at cs q.contract) q book
