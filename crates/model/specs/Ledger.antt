-- Document 01, "The packed ledger" and "Calls", with paper 5's amend: the ledger's facts, and what each call answers and leaves. Assumes nothing.
use Rattle.std.specs.Prelude.{Bool, not, cond, ◌&&◌, ◌||◌, List, [], ◌∷◌, map, ℕ, suc, ◌*◌, ◌/◌, ◌%◌, ltb, eqb, Result, Ok, Err}
use Rattle.std.proofs.Math.IntN.{sub_ℕ}
use Rattle.limits.specs.Limits.{ticks_per_penny}
use Rattle.basics.specs.Lists.{total, count}
use Rattle.rates.specs.declared.Contract.{Contract}
use Rattle.amounts.specs.declared.Bill.{Bill}
use Rattle.model.specs.declared.Row.{Row}
use Rattle.model.specs.declared.Answer.{Answer}
use Rattle.model.specs.declared.Answer.TheVariants.{Done, Billed, Rebilled, Certified, Cancelled, Claimed, Reported, Totalled}
use Rattle.model.specs.Codes.{opening, certify, amend}
use Rattle.model.specs.OpenContracts.{Contracts, no_contracts, contract_at, put_contract}
use Rattle.model.specs.declared.Call.{Call}
use Rattle.model.specs.Calls.{CallWithBook, View, named, requested_bill, ◌with◌}
use Rattle.model.specs.Rules.{Rules, refusal, unless_refused}

-- the facts that a ledger holds
pub record Ledger : Type 0 where
  pub territory : ℕ
  pub contracts : Contracts
  pub rows : List Row
  pub claims : ℕ
  pub pence : ℕ

-- a fresh ledger
unfoldable pub fresh : (territory : ℕ) → Ledger
fresh t = record { territory = t; contracts = no_contracts; rows = []; claims = 0; pence = 0 }

unfoldable pub view : Ledger → View
view l = record { territory = l.territory; contracts = l.contracts; held = λ p. count (λ x. p x.bill) l.rows; claims = l.claims }

-- ---- rows

-- ascending by contract then first day: a bill after that day of the contract
abbrev pub comes_after : (contract day : ℕ) → Bill → Bool
comes_after c day x = ltb c x.contract || (eqb c x.contract && ltb day x.first)

unfoldable pub sorts_after : Bill → Bill → Bool
sorts_after x b = comes_after b.contract b.first x

-- the place of a new row is the first held row that sorts after it, or the end of the held rows
abbrev pub insert : Row → List Row → List Row
insert r [] = r ∷ []
insert r (x ∷ xs) = cond (sorts_after x.bill r.bill) (r ∷ x ∷ xs) (x ∷ insert r xs)

-- the first row that passes the test: its amount (0 where there is none), the rows without it, the rows with another in its place
abbrev pub amount_of : (Bill → Bool) → List Row → ℕ
amount_of p [] = 0
amount_of p (x ∷ xs) = cond (p x.bill) x.amount (amount_of p xs)

abbrev pub remove : (Bill → Bool) → List Row → List Row
remove p [] = []
remove p (x ∷ xs) = cond (p x.bill) xs (x ∷ remove p xs)

abbrev pub replace : (Bill → Bool) → Row → List Row → List Row
replace p r [] = []
replace p r (x ∷ xs) = cond (p x.bill) (r ∷ xs) (x ∷ replace p r xs)

-- a row of that contract
abbrev pub of_contract : ℕ → Row → Bool
of_contract c x = eqb x.bill.contract c

-- a row with another amount
abbrev pub with_amount : Row → ℕ → Row
with_amount x amount = record { bill = x.bill; amount = amount }

-- the sum of the held amounts
unfoldable pub due : Ledger → ℕ
due l = total (λ x. x.amount) l.rows

-- ---- what is left and answered

pub record Outcome : Type 0 where
  pub next : Ledger
  pub answers : Result Answer ℕ

abbrev pub ledger_with_rows : Ledger → List Row → Ledger
ledger_with_rows l xs = record { territory = l.territory; contracts = l.contracts; rows = xs; claims = l.claims; pence = l.pence }

abbrev pub with_contract : Ledger → ℕ → Contract → Ledger
with_contract l c k = record { territory = l.territory; contracts = put_contract l.contracts c k; rows = l.rows; claims = l.claims; pence = l.pence }

-- a refused call answers its number and leaves the ledger as it was
abbrev pub outcome_turned_down : Ledger → (refusal : ℕ) → Outcome
outcome_turned_down l n = record { next = l; answers = Err n }

module _ (R : Rules) where
  -- a row with its amount under the contract
  unfoldable pub priced : Contract → Bill → Row
  priced k b = record { bill = b; amount = R.amount k b }

  -- a row of contract c under the contract k, and any other as it is
  unfoldable pub rerated : ℕ → Contract → Row → Row
  rerated c k x = cond (of_contract c x) (priced k x.bill) x

  -- what each call leaves and answers where nothing turns it down
  unfoldable pub accept : Ledger → CallWithBook → Outcome
  accept l (Call.Open c fuel kind fix entry with book) = record { next = with_contract l c (opening fuel kind fix entry); answers = Ok Done }
  accept l (Call.Bill q with book) =
      let k = contract_at l.contracts q.contract in
      let b = requested_bill l.contracts q book in
      record { next = ledger_with_rows l (insert (priced k b) l.rows); answers = Ok (Billed b.reference (R.rate k b) (priced k b).amount) }
  accept l (Call.Rebill q with book) =
      let k = contract_at l.contracts q.contract in
      let b = requested_bill l.contracts q book in
      let p = named q.contract q.first in
      record {
        next = ledger_with_rows l (replace p (priced k b) l.rows);
        answers = Ok (Rebilled b.reference (R.rate k b) (sub_ℕ (priced k b).amount (amount_of p l.rows)));
      }
  accept l (Call.Cert c class effective with book) =
      let k = certify (contract_at l.contracts c) class effective in
      let xs = map (rerated c k) l.rows in
      record {
        next = with_contract (ledger_with_rows l xs) c k;
        answers = Ok (Certified (sub_ℕ (total (λ x. x.amount) xs) (due l)) (count (λ x. not (eqb (rerated c k x).amount x.amount)) l.rows));
      }
  accept l (Call.Cancel c first with book) =
      record { next = ledger_with_rows l (remove (named c first) l.rows); answers = Ok (Cancelled (sub_ℕ 0 (amount_of (named c first) l.rows))) }
  accept l (Call.Claim with book) = record {
    next = record { territory = l.territory; contracts = l.contracts; rows = l.rows; claims = suc l.claims; pence = due l / ticks_per_penny };
    answers = Ok (Claimed (sub_ℕ (due l / ticks_per_penny) l.pence) (due l % ticks_per_penny));
  }
  accept l (Call.Report c with book) = record {
    next = l;
    answers = Ok (Reported (count (of_contract c) l.rows) (total (λ x. cond (of_contract c x) x.bill.kwh 0) l.rows) (total (λ x. cond (of_contract c x) x.amount 0) l.rows));
  }
  accept l (Call.Total with book) = record { next = l; answers = Ok (Totalled (due l) (sub_ℕ (due l) (ticks_per_penny * l.pence))) }
  accept l (Call.Amend c end fix entry with book) = record { next = with_contract l c (amend (contract_at l.contracts c) end fix entry); answers = Ok Done }

  unfoldable pub outcome : Ledger → CallWithBook → Outcome
  outcome l c = let n = refusal R (view l) c in unless_refused n (accept l c) (outcome_turned_down l n)

  -- the ledger that a call leaves, and what it answers
  unfoldable pub step : Ledger → CallWithBook → Ledger
  step l c = (outcome l c).next

  unfoldable pub answer : Ledger → CallWithBook → Result Answer ℕ
  answer l c = (outcome l c).answers
