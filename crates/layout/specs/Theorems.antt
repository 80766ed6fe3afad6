-- What is established of the packed ledger, by the rules and the layout in force. Assumes nothing.
use Rattle.std.specs.Prelude.{◌≡◌, List, [], ◌∷◌, ◌↔◌, ℕ, ◌-◌, ◌*◌, ◌≤◌, length, replicate, Err}
use Rattle.basics.specs.Lists.{All}
use Rattle.amounts.specs.EarlierAmount.{earlier_amount}
use Rattle.model.specs.declared.Call.{Call}
use Rattle.model.specs.Calls.{CallWithBook, values_in, ◌with◌}
use Rattle.model.specs.Ledger.{Ledger, fresh}
use Rattle.model.specs.WellFormed.{WellFormed}
use Rattle.model.specs.StoredEarlier.{rules_with, RatedByDay}
use Rattle.model.specs.History.{run, state_after}
use Rattle.model.specs.Balance.{EveryHistoryBalances, StoredBalanceGoesOn}
use Rattle.model.specs.HoldsFacts.{EveryHistoryHoldsItsFacts}
use Rattle.model.specs.SheetAnswers.{EveryAnswerFromTheSheet, StoredAnswersFromTheSheet, EveryAcceptedClaimLeavesRest}
use Rattle.model.specs.Postings.{SameAsPostings}
use Rattle.model.specs.Amendments.{EveryAmendKeepsParts}
use Rattle.model.specs.LargestBill.{LargerRowsStoodBefore, NoLargerRow}
use Rattle.layout.specs.Offsets.{ledger_length}
use Rattle.layout.specs.Present.{rules, Formed, facts, bytes, machine}

-- the length of a packed ledger: as the contracts have it, and as a well-formed ledger has it
pub record PackedSize : Type 0 where
  pub number : ledger_length ≡ 26184
  pub formed : (b : List ℕ) → Formed b → length b ≡ ledger_length

-- "A fresh ledger is zeros but for the territory bit", which is the first
abbrev pub FreshLedger : Type 0
FreshLedger = (territory : ℕ) → territory ≤ 1 → bytes (fresh territory) ≡ territory * 128 ∷ replicate (ledger_length - 1) 0

-- demand 2: packing then unpacking gives the facts; unpacking then packing a well-formed ledger gives its bytes; and the well-formed
-- ledgers are exactly the bytes of well-formed facts
pub record RoundTrips : Type 0 where
  pub facts_back : (l : Ledger) → WellFormed rules l → facts (bytes l) ≡ l
  pub bytes_back : (b : List ℕ) → Formed b → bytes (facts b) ≡ b
  pub formed_exactly : (b : List ℕ) → Formed b ↔ ((l : Ledger) × WellFormed rules l × (bytes l ≡ b))

-- "claims at most 1,000, and no pence where no claim was made"
pub record ClaimsKept : Type 0 where
  pub at_most : (b : List ℕ) → Formed b → (facts b).claims ≤ 1000
  pub no_pence : (b : List ℕ) → Formed b → (facts b).claims ≡ 0 → (facts b).pence ≡ 0

-- "the amount is kWh times rate", by day: of each row of a well-formed ledger; bytes with a held row whose amount isn't that are turned down by
-- number 2, whatever the call, and no byte is changed; the bytes of a ledger's facts that were well formed earlier are so where the amounts are those by day
pub record AmountsKept : Type 0 where
  pub by_day : (b : List ℕ) → Formed b → All (RatedByDay (facts b).contracts) (facts b).rows
  pub refused : (b : List ℕ) → (All (RatedByDay (facts b).contracts) (facts b).rows → ⊥) → (c : CallWithBook) → machine.answer b c ≡ Err 2
  pub unchanged : (b : List ℕ) → (All (RatedByDay (facts b).contracts) (facts b).rows → ⊥) → (c : CallWithBook) → machine.step b c ≡ b
  pub taken : (l : Ledger) → WellFormed (rules_with earlier_amount) l → All (RatedByDay l.contracts) l.rows → Formed (bytes l)

-- demand 3, on the bytes: every history balances, with due the sum of the amounts, by the rates, of the sheet's standing bills; and a claim
-- that the sheet accepts as the last call leaves 0 to 9,999
pub record DemandThree : Type 0 where
  pub balances : EveryHistoryBalances rules machine
  pub last_claim : EveryAcceptedClaimLeavesRest rules machine

-- demand 3 from a stored ledger on, whose own rows begin the sheet: a well-formed one that balances with the answers to its earlier calls goes
-- on balancing, also where the rules in force would turn such calls down, as bills across months or of more than 40,000,000 kWh
abbrev pub StoredLedgersBalance : Type 0
StoredLedgersBalance = StoredBalanceGoesOn rules machine Formed

-- and a well-formed one stays so, so that number 2 meets none of its later calls, and answers each of them from the sheet
pub record StoredLedgersAnswer : Type 0 where
  pub well_formed : (b : List ℕ) → Formed b → (h : List CallWithBook) → Formed (run machine.step b h)
  pub from_the_sheet : StoredAnswersFromTheSheet rules machine Formed

-- demand 2, for every history: the bytes hold exactly the sheet's facts
abbrev pub PackedHistoriesHoldTheirFacts : Type 0
PackedHistoriesHoldTheirFacts = EveryHistoryHoldsItsFacts rules machine

-- every answer in every history is that of the sheet
abbrev pub PackedAnswersFromTheSheet : Type 0
PackedAnswersFromTheSheet = EveryAnswerFromTheSheet rules machine

-- the move from postings: call by call the rate, the customer's signed amount and the pence of each claim are the posting module's
abbrev pub PackedSameAsPostings : Type 0
PackedSameAsPostings = SameAsPostings rules machine

-- an amend "answers no numbers and alters no row": of any bytes, and of a well-formed ledger, whatever numbers are given
pub record AmendAltersNoRow : Type 0 where
  pub answers : (b : List ℕ) (c end fix entry : ℕ) (book : List ℕ) → values_in (machine.answer b (Call.Amend c end fix entry with book)) ≡ []
  pub rows : (b : List ℕ) → Formed b → (c end fix entry : ℕ) (book : List ℕ) → (facts (machine.step b (Call.Amend c end fix entry with book))).rows ≡ (facts b).rows
  -- and in every history it changes no bill's part of due
  pub parts : EveryAmendKeepsParts rules

-- no call makes a row of more than 40,000,000 kWh: after calls on a stored ledger each such row has the bill of one that it had, and after a history
-- there is none
pub record LargerRowsWereStored : Type 0 where
  pub stored : LargerRowsStoodBefore machine Formed
  pub none : NoLargerRow machine

-- number 2 comes before all others: whatever the bytes and the call, where the bytes aren't a well-formed ledger the call is turned down by
-- number 2 and no byte is changed
pub record NumberTwoFirst : Type 0 where
  pub refused : (b : List ℕ) → (Formed b → ⊥) → (c : CallWithBook) → machine.answer b c ≡ Err 2
  pub unchanged : (b : List ℕ) → (Formed b → ⊥) → (c : CallWithBook) → machine.step b c ≡ b

-- number 2 meets no call of a history
abbrev pub NumberTwoMeetsNoCall : Type 0
NumberTwoMeetsNoCall = (territory : ℕ) → territory ≤ 1 → (h : List CallWithBook) → Formed (state_after machine territory h)
