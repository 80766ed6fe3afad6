-- Document 01, "A history and its sheet", with paper 5's amend: the sheet is fed the territory and the calls, and no answer and no byte. Assumes nothing.
use Rattle.std.specs.Prelude.{Bool, cond, List, [], ◌∷◌, map, ℕ, suc}
use Rattle.basics.specs.Lists.{total, count}
use Rattle.rates.specs.declared.Contract.{Contract}
use Rattle.amounts.specs.declared.Bill.{Bill}
use Rattle.model.specs.Codes.{opening, certify, amend}
use Rattle.model.specs.OpenContracts.{Contracts, no_contracts, contract_at, put_contract}
use Rattle.model.specs.declared.Call.{Call}
use Rattle.model.specs.Calls.{CallWithBook, View, named, requested_bill, ◌with◌}
use Rattle.model.specs.Rules.{Rules, refusal, unless_refused, part_of_due}

-- contracts, bills in no order, and a count of claims
pub record Sheet : Type 0 where
  pub territory : ℕ
  pub contracts : Contracts
  pub bills : List Bill
  pub claims : ℕ

-- at first none
unfoldable pub blank : (territory : ℕ) → Sheet
blank t = record { territory = t; contracts = no_contracts; bills = []; claims = 0 }

unfoldable pub view : Sheet → View
view s = record { territory = s.territory; contracts = s.contracts; held = λ p. count p s.bills; claims = s.claims }

-- the bills that don't pass the test
abbrev pub strike_out : (Bill → Bool) → List Bill → List Bill
strike_out p [] = []
strike_out p (x ∷ xs) = cond (p x) (strike_out p xs) (x ∷ strike_out p xs)

-- b in place of a bill that passes the test
unfoldable pub in_place_of : (Bill → Bool) → Bill → Bill → Bill
in_place_of p b x = cond (p x) b x

abbrev pub with_bills : Sheet → List Bill → Sheet
with_bills s bs = record { territory = s.territory; contracts = s.contracts; bills = bs; claims = s.claims }

abbrev pub with_contract : Sheet → ℕ → Contract → Sheet
with_contract s c k = record { territory = s.territory; contracts = put_contract s.contracts c k; bills = s.bills; claims = s.claims }

-- what each call does to the sheet where nothing turns it down
unfoldable pub accept : Sheet → CallWithBook → Sheet
accept s (Call.Open c fuel kind fix entry with book) = with_contract s c (opening fuel kind fix entry)
accept s (Call.Bill q with book) = with_bills s (requested_bill s.contracts q book ∷ s.bills)
accept s (Call.Rebill q with book) = with_bills s (map (in_place_of (named q.contract q.first) (requested_bill s.contracts q book)) s.bills)
accept s (Call.Cert c class effective with book) = with_contract s c (certify (contract_at s.contracts c) class effective)
accept s (Call.Cancel c first with book) = with_bills s (strike_out (named c first) s.bills)
accept s (Call.Claim with book) = record { territory = s.territory; contracts = s.contracts; bills = s.bills; claims = suc s.claims }
accept s (Call.Report c with book) = s
accept s (Call.Total with book) = s
accept s (Call.Amend c end fix entry with book) = with_contract s c (amend (contract_at s.contracts c) end fix entry)

-- a call that is turned down leaves the sheet as it was
unfoldable pub step : Rules → Sheet → CallWithBook → Sheet
step R s c = unless_refused (refusal R (view s) c) (accept s c) s

-- due: the sum of the parts of the bills on the sheet, by its latest facts
unfoldable pub due : Rules → Sheet → ℕ
due R s = total (part_of_due R s.contracts) s.bills
