-- Document 00: the posting module that the ledger replaces. It "writes each bill, reversal and reissue as a posting and adds them up";
-- the discount per kWh, the signed amount for the customer and the pence of each claim must stay equal. Assumes nothing.
use Rattle.std.specs.Prelude.{◌≡◌, Bool, not, List, [], ◌∷◌, ◌++◌, map, ℕ, ◌/◌, ◌<◌, ◌≤◌, eqb, ℤ, pos, negsuc, neg_ℤ, ◌+ℤ◌, ◌-ℤ◌, ◌*ℤ◌, Result, Ok, Err}
use Rattle.limits.specs.Limits.{ticks_per_penny}
use Rattle.basics.specs.Integers.{sumℤ}
use Rattle.amounts.specs.declared.Bill.{Bill}
use Rattle.model.specs.declared.Answer.{Answer}
use Rattle.model.specs.declared.Answer.TheVariants.{Done, Billed, Rebilled, Certified, Cancelled, Claimed, Reported, Totalled}
use Rattle.model.specs.Codes.{certify}
use Rattle.model.specs.OpenContracts.{Contracts, contract_at, put_contract}
use Rattle.model.specs.declared.Call.{Call}
use Rattle.model.specs.Calls.{CallWithBook, named, requested_bill, customer_amount, claim_pence, ◌with◌}
use Rattle.model.specs.Rules.{Rules, refusal, unless_refused, part_of_due}
use Rattle.model.specs.Sheet
use Rattle.model.specs.Sheet.{Sheet, blank, view, strike_out}
use Rattle.model.specs.History.{replies, Machine, answers_to}

-- what must stay equal, call by call: the rate answered (0 where the call answers none), the customer's signed amount, a claim's pence
pub record Figures : Type 0 where
  pub rate : ℕ
  pub customer : ℤ
  pub pence : ℤ

abbrev pub no_figures : Figures
no_figures = record { rate = 0; customer = pos 0; pence = pos 0 }

-- ---- the ledger's answers

abbrev pub answered_rate : Result Answer ℕ → ℕ
answered_rate (Err n) = 0
answered_rate (Ok Done) = 0
answered_rate (Ok (Billed r rate amount)) = rate
answered_rate (Ok (Rebilled r rate change)) = rate
answered_rate (Ok (Certified change rows)) = 0
answered_rate (Ok (Cancelled change)) = 0
answered_rate (Ok (Claimed pence rest)) = 0
answered_rate (Ok (Reported rows kwh due)) = 0
answered_rate (Ok (Totalled due unclaimed)) = 0

unfoldable pub answered_figures : Result Answer ℕ → Figures
answered_figures a = record { rate = answered_rate a; customer = customer_amount a; pence = claim_pence a }

-- ---- the posting module

-- the standing facts, the signed postings in ticks, oldest first, and the pence claimed. No amount of a bill is kept
pub record Postings : Type 0 where
  pub standing : Sheet
  pub posted : List ℤ
  pub claimed : ℤ

unfoldable pub nothing_posted : (territory : ℕ) → Postings
nothing_posted t = record { standing = blank t; posted = []; claimed = pos 0 }

-- the postings added up
abbrev pub sum_posted : List ℤ → ℤ
sum_posted zs = sumℤ (λ z. z) zs

-- floor(z / 10,000); negsuc n is −(n + 1)
abbrev pub floor_pence : ℤ → ℤ
floor_pence (pos n) = pos (n / ticks_per_penny)
floor_pence (negsuc n) = negsuc (n / ticks_per_penny)

-- 10,000 times the floor leaves a rest of 0 to 9,999, of a negative sum too
abbrev pub FloorLeavesRest : Type 0
FloorLeavesRest = (z : ℤ) → (rest : ℕ) × (z ≡ pos ticks_per_penny *ℤ floor_pence z +ℤ pos rest) × (rest < ticks_per_penny)

-- the bills that pass the test
abbrev pub passing : (Bill → Bool) → List Bill → List Bill
passing p bs = strike_out (λ b. not (p b)) bs

-- each bill issued posts its part of due by the contracts; each bill reversed posts minus that
abbrev pub issues : Rules → Contracts → List Bill → List ℤ
issues R cs bs = map (λ b. pos (part_of_due R cs b)) bs

abbrev pub reversals : Rules → Contracts → List Bill → List ℤ
reversals R cs bs = map (λ b. neg_ℤ (pos (part_of_due R cs b))) bs

-- what each call posts where nothing turns it down
unfoldable pub posts : Rules → Sheet → CallWithBook → List ℤ
posts R s (Call.Open c fuel kind fix entry with book) = []
posts R s (Call.Bill q with book) = issues R s.contracts (requested_bill s.contracts q book ∷ [])
posts R s (Call.Rebill q with book) = reversals R s.contracts (passing (named q.contract q.first) s.bills) ++ issues R s.contracts (requested_bill s.contracts q book ∷ [])
posts R s (Call.Cert c class effective with book) =
    let bs = passing (λ b. eqb b.contract c) s.bills in
    reversals R s.contracts bs ++ issues R (put_contract s.contracts c (certify (contract_at s.contracts c) class effective)) bs
posts R s (Call.Cancel c first with book) = reversals R s.contracts (passing (named c first) s.bills)
posts R s (Call.Claim with book) = []
posts R s (Call.Report c with book) = []
posts R s (Call.Total with book) = []
posts R s (Call.Amend c end fix entry with book) = []

-- the rate that a call answers where nothing turns it down
unfoldable pub accepted_rate : Rules → Sheet → CallWithBook → ℕ
accepted_rate R s (Call.Open c fuel kind fix entry with book) = 0
accepted_rate R s (Call.Bill q with book) = R.rate (contract_at s.contracts q.contract) (requested_bill s.contracts q book)
accepted_rate R s (Call.Rebill q with book) = R.rate (contract_at s.contracts q.contract) (requested_bill s.contracts q book)
accepted_rate R s (Call.Cert c class effective with book) = 0
accepted_rate R s (Call.Cancel c first with book) = 0
accepted_rate R s (Call.Claim with book) = 0
accepted_rate R s (Call.Report c with book) = 0
accepted_rate R s (Call.Total with book) = 0
accepted_rate R s (Call.Amend c end fix entry with book) = 0

-- the pence that a claim answers where nothing turns it down: the floor of the sum, less the pence claimed before
unfoldable pub accepted_pence : Postings → CallWithBook → ℤ
accepted_pence p (Call.Open c fuel kind fix entry with book) = pos 0
accepted_pence p (Call.Bill q with book) = pos 0
accepted_pence p (Call.Rebill q with book) = pos 0
accepted_pence p (Call.Cert c class effective with book) = pos 0
accepted_pence p (Call.Cancel c first with book) = pos 0
accepted_pence p (Call.Claim with book) = floor_pence (sum_posted p.posted) -ℤ p.claimed
accepted_pence p (Call.Report c with book) = pos 0
accepted_pence p (Call.Total with book) = pos 0
accepted_pence p (Call.Amend c end fix entry with book) = pos 0

-- what a call leaves and answers; one that is turned down, by the same tests on the module's own facts, posts nothing and answers zeros
module _ (R : Rules) where
  unfoldable pub accept : Postings → CallWithBook → Postings
  accept p c = record { standing = Sheet.accept p.standing c; posted = p.posted ++ posts R p.standing c; claimed = p.claimed +ℤ accepted_pence p c }

  unfoldable pub accepted_figures : Postings → CallWithBook → Figures
  accepted_figures p c = record { rate = accepted_rate R p.standing c; customer = sum_posted (posts R p.standing c); pence = accepted_pence p c }

  unfoldable pub step : Postings → CallWithBook → Postings
  step p c = unless_refused (refusal R (view p.standing) c) (accept p c) p

  unfoldable pub figures : Postings → CallWithBook → Figures
  figures p c = unless_refused (refusal R (view p.standing) c) (accepted_figures p c) no_figures

-- of a machine: for either territory and every history, call by call, the rate, the customer's signed amount and the pence of each claim
-- are those of the posting module
abbrev pub SameAsPostings : Rules → Machine → Type 0
SameAsPostings R m = (territory : ℕ) → territory ≤ 1 → (h : List CallWithBook) →
    map answered_figures (answers_to m territory h) ≡ replies (step R) (figures R) (nothing_posted territory) h
