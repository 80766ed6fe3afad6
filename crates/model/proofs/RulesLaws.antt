-- What the proofs use of the rules. Assumes nothing.
use mathlib.Core.Path.{◌≡◌}
use mathlib.Core.Bool.{true, false, not, ◌&&◌}
use mathlib.Core.List.{List}
use Prim.Native.Nat.{ℕ, ◌<◌, ◌≤◌}
use Rattle.limits.specs.Limits.{last_day, row_count, most_claims}
use Rattle.rates.specs.declared.Contract.{Contract}
use Rattle.amounts.specs.declared.Bill.{Bill}
use Rattle.amounts.proofs.AmountBounds.{highest_amount}
use Rattle.model.specs.Codes.{opening, certify, amend}
use Rattle.model.specs.OpenContracts.{contract_at, is_open}
use Rattle.model.specs.declared.Call.{Call}
use Rattle.model.specs.declared.Request.{Request}
use Rattle.model.specs.Calls.{View, named, sharing, ends_after, requested_bill, ◌with◌}
use Rattle.model.specs.Rules.{Rules, refusal}

pub record Taken (R : Rules) (v : View) (b : Request) (book : List ℕ) : Type 0 where
  pub number : b.contract < R.contract_limit
  pub is_opened : is_open v.contracts b.contract ≡ true
  pub ranges : R.contract_ok v.territory (contract_at v.contracts b.contract) ≡ true → R.bill_ok (contract_at v.contracts b.contract) (requested_bill v.contracts b book) ≡ true

pub record Opened (R : Rules) (v : View) (c : ℕ) (k : Contract) : Type 0 where
  pub number : c < R.contract_limit
  pub new : is_open v.contracts c ≡ false
  pub ranges : R.contract_ok v.territory k ≡ true

pub record Certified (R : Rules) (v : View) (c class effective : ℕ) : Type 0 where
  pub number : c < R.contract_limit
  pub is_opened : is_open v.contracts c ≡ true
  pub ranges : (k : Contract) → R.contract_ok v.territory k ≡ true → R.contract_ok v.territory (certify k class effective) ≡ true

-- no standing row ends after the original end; a bill that doesn't keeps its ranges and its amount
pub record Amended (R : Rules) (v : View) (c end fix entry : ℕ) : Type 0 where
  pub number : c < R.contract_limit
  pub is_opened : is_open v.contracts c ≡ true
  pub ranges : R.contract_ok v.territory (contract_at v.contracts c) ≡ true → R.contract_ok v.territory (amend (contract_at v.contracts c) end fix entry) ≡ true
  pub ended : v.held (ends_after c end) ≡ 0
  pub bill-ranges : (b : Bill) → b.last ≤ end → R.bill_ok (contract_at v.contracts c) b ≡ true → R.bill_ok (amend (contract_at v.contracts c) end fix entry) b ≡ true
  pub bill-amount : (b : Bill) → b.last ≤ end → R.bill_ok (contract_at v.contracts c) b ≡ true → R.amount (amend (contract_at v.contracts c) end fix entry) b ≡ R.amount (contract_at v.contracts c) b

pub record RulesLaws (R : Rules) : Type 0 where
  -- accepted calls
  pub opens : (v : View) (c fuel kind fix entry : ℕ) (book : List ℕ) → refusal R v (Call.Open c fuel kind fix entry with book) ≡ 0 → Opened R v c (opening fuel kind fix entry)
  pub bills : (v : View) (b : Request) (book : List ℕ) → refusal R v (Call.Bill b with book) ≡ 0 → Taken R v b book
  pub bill-free : (v : View) (b : Request) (book : List ℕ) → refusal R v (Call.Bill b with book) ≡ 0 → v.held (sharing b.contract b.first b.last) ≡ 0
  pub bill-room : (v : View) (b : Request) (book : List ℕ) → refusal R v (Call.Bill b with book) ≡ 0 → v.held (λ x. true) < row_count
  pub rebills : (v : View) (b : Request) (book : List ℕ) → refusal R v (Call.Rebill b with book) ≡ 0 → Taken R v b book
  pub rebill-found : (v : View) (b : Request) (book : List ℕ) → refusal R v (Call.Rebill b with book) ≡ 0 → 0 < v.held (named b.contract b.first)
  pub rebill-free : (v : View) (b : Request) (book : List ℕ) → refusal R v (Call.Rebill b with book) ≡ 0 → v.held (λ x. sharing b.contract b.first b.last x && not (named b.contract b.first x)) ≡ 0
  pub certs : (v : View) (c class effective : ℕ) (book : List ℕ) → refusal R v (Call.Cert c class effective with book) ≡ 0 → Certified R v c class effective
  pub claims : (v : View) (book : List ℕ) → refusal R v (Call.Claim with book) ≡ 0 → v.claims < most_claims
  pub amends : (v : View) (c end fix entry : ℕ) (book : List ℕ) → refusal R v (Call.Amend c end fix entry with book) ≡ 0 → Amended R v c end fix entry
  pub totals : (v : View) (book : List ℕ) → refusal R v (Call.Total with book) ≡ 0
  -- ranges: of days, of amounts, and whatever the certificate
  pub days : (k : Contract) (b : Bill) → R.bill_ok k b ≡ true → (b.first ≤ b.last) × (b.last ≤ last_day)
  pub begins : (k : Contract) (b : Bill) → R.bill_ok k b ≡ true → 0 < b.first
  pub low : (k : Contract) (b : Bill) → R.bill_ok k b ≡ true → R.amount k b ≤ highest_amount
  pub any-cert : (k : Contract) (class effective : ℕ) (b : Bill) → R.bill_ok k b ≡ true → R.bill_ok (certify k class effective) b ≡ true
  pub capped : (k : Contract) (b : Bill) → R.bill_ok k b ≡ true → R.amount k b ≤ R.cap k b
