-- Document 01, "Turned down, in checking order": a call that none of its own tests fits is accepted, whatever rows are held. So rows across
-- months "still take certificates and cancellation", as paper 2 of document 02 has it, and so do paper 6's larger rows. Assumes nothing.
use Rattle.std.specs.Prelude.{◌≡◌, true, false, not, ◌&&◌, List, ℕ, ◌<◌}
use Rattle.rates.specs.declared.Contract.{Contract}
use Rattle.rates.specs.TermsTaken.{terms_for, crosses_end}
use Rattle.model.specs.OpenContracts.{contract_at, is_open}
use Rattle.model.specs.Book.{reference}
use Rattle.model.specs.declared.Call.{Call}
use Rattle.model.specs.declared.Request.{Request}
use Rattle.model.specs.Calls.{CallWithBook, View, named, sharing, ends_after, ◌with◌}
use Rattle.model.specs.Rules.{refusal}
use Rattle.model.specs.PresentRules.{bad_book, bad_number, not_amendable, bad_kind, bad_class, bad_days, bad_effective, bad_span, bad_amendment_days, bad_months, bad_amounts, bad_shares, no_price, present_rules}

-- the call is accepted
abbrev pub Accepted : View → Call → (book : List ℕ) → Type 0
Accepted v c book = refusal present_rules v (c with book) ≡ 0

-- the call is a bill or rebill of whose request that is so
abbrev pub OfRequest : (View → Request → (book : List ℕ) → Type 0) → View → CallWithBook → Type 0
OfRequest P v (Call.Open c fuel kind fix entry with book) = ⊥
OfRequest P v (Call.Bill q with book) = P v q book
OfRequest P v (Call.Rebill q with book) = P v q book
OfRequest P v (Call.Cert c class effective with book) = ⊥
OfRequest P v (Call.Cancel c first with book) = ⊥
OfRequest P v (Call.Claim with book) = ⊥
OfRequest P v (Call.Report c with book) = ⊥
OfRequest P v (Call.Total with book) = ⊥
OfRequest P v (Call.Amend c end fix entry with book) = ⊥

-- a request that 3, 4, 5 and 7 let pass: its book, contract and days
pub record RightContractAndDays (v : View) (q : Request) (book : List ℕ) : Type 0 where
  pub prices : bad_book book ≡ false
  pub number : bad_number q.contract ≡ false
  pub opened : is_open v.contracts q.contract ≡ true
  pub days : bad_span q.first q.last ≡ false

-- the contract that a request names
abbrev pub contract_named : View → Request → Contract
contract_named v q = contract_at v.contracts q.contract

-- a request that 15 and 17 let pass too: its span under its contract
pub record RightSpan (v : View) (q : Request) (book : List ℕ) : Type 0 where
  pub right : RightContractAndDays v q book
  pub months : bad_months (contract_named v q).kind q.first q.last ≡ false
  pub inside : crosses_end (contract_named v q).amendment q.first q.last ≡ false

-- a request that 8 and 14 let pass too, and whose price isn't 0 where it is needed (11)
pub record RightNumbers (v : View) (q : Request) (book : List ℕ) : Type 0 where
  pub span : RightSpan v q book
  pub amounts : bad_amounts (contract_named v q) q ≡ false
  pub shares : bad_shares q.kwh q.etii q.qhs ≡ false
  pub priced : no_price (contract_named v q).kind (reference (terms_for (contract_named v q) q.first) q.first q.wap book) ≡ false

pub record AcceptedWhereNoneFits : Type 0 where
  pub opens : (v : View) (c fuel kind fix entry : ℕ) (book : List ℕ) → bad_number c ≡ false → is_open v.contracts c ≡ false
      → bad_kind v.territory fuel kind ≡ false → bad_days kind fix entry ≡ false → Accepted v (Call.Open c fuel kind fix entry) book
  pub bills : (v : View) (q : Request) (book : List ℕ) → RightNumbers v q book → v.held (sharing q.contract q.first q.last) ≡ 0
      → v.held (λ x. true) < 1024 → Accepted v (Call.Bill q) book
  pub rebills : (v : View) (q : Request) (book : List ℕ) → RightNumbers v q book → 0 < v.held (named q.contract q.first)
      → v.held (λ x. sharing q.contract q.first q.last x && not (named q.contract q.first x)) ≡ 0 → Accepted v (Call.Rebill q) book
  pub certificates : (v : View) (c class effective : ℕ) (book : List ℕ) → bad_number c ≡ false → is_open v.contracts c ≡ true
      → bad_class class ≡ false → bad_effective class effective ≡ false → Accepted v (Call.Cert c class effective) book
  pub cancellations : (v : View) (c first : ℕ) (book : List ℕ) → bad_number c ≡ false → is_open v.contracts c ≡ true
      → 0 < v.held (named c first) → Accepted v (Call.Cancel c first) book
  pub claims : (v : View) (book : List ℕ) → v.claims < 1000 → Accepted v Call.Claim book
  pub reports : (v : View) (c : ℕ) (book : List ℕ) → bad_number c ≡ false → is_open v.contracts c ≡ true → Accepted v (Call.Report c) book
  pub totals : (v : View) (book : List ℕ) → Accepted v Call.Total book
  pub amendments : (v : View) (c end fix entry : ℕ) (book : List ℕ) → bad_number c ≡ false → is_open v.contracts c ≡ true
      → not_amendable (contract_at v.contracts c) ≡ false → bad_amendment_days end fix entry ≡ false → v.held (ends_after c end) ≡ 0
      → Accepted v (Call.Amend c end fix entry) book
