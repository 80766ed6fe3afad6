-- What is established of the packed ledger: its length, its round trips, and its histories. Assumes nothing.
use mathlib.Core.Path.{◌≡◌, refl, ap, ◌∙◌}
use mathlib.Core.Bool.{Bool, true, false, cond}
use mathlib.Core.List.{List, [], ◌∷◌, ◌++◌}
use Prim.Native.Nat.{ℕ, zero, suc, ◌-◌, ◌*◌, ◌≤◌}
use native.Mathlib.Omega.{arith}
use lib.ListN.{replicate, replicate-append-replicate}
use Rattle.fields.specs.Field.{value, bits_of, bytes_of_bits}
use Rattle.fields.specs.Fields.{field_bits}
use Rattle.records.specs.Pack.{size, pack}
use Rattle.basics.specs.Lists.{All}
use Rattle.model.specs.declared.Row.{Row}
use Rattle.model.specs.declared.Call.{Call}
use Rattle.std.specs.Prelude.{Err}
use Rattle.model.specs.Calls.{CallWithBook, values_in, ◌with◌}
use Rattle.model.specs.Rules.{refusal, unless_refused}
use Rattle.model.specs.Ledger.{Ledger, fresh, view, outcome_turned_down, accept, outcome, answer}
use Rattle.model.specs.StoredEarlier.{RatedByDay}
use Rattle.model.proofs.StoredEarlier.{by_day, stored_earlier}
use Rattle.model.proofs.HoldsFacts.{bytes-hold}
use Rattle.model.proofs.SheetAnswers.{bytes-answer-from-the-sheet, bytes-answer-from-the-stored-sheet, accepted-claim-leaves-rest}
use Rattle.model.proofs.Postings.{bytes-same-as-postings}
use Rattle.model.proofs.StaysWellFormed.{stays-act}
use Rattle.model.proofs.Amendments.{every-amend-keeps-parts}
use Rattle.model.proofs.LargestBill.{bytes-larger-rows-stood-before, bytes-no-larger-row}
use Rattle.model.proofs.BytesBalance.{bytes-balance, bytes-balance-goes-on, bytes-well-formed, stored-well-formed}
use Rattle.layout.specs.Layout.{header_bytes, is_well_formed, format}
use Rattle.layout.specs.Offsets.{ledger_length}
use Rattle.layout.specs.Present.{rules, layout, Formed, facts, bytes, machine}
use Rattle.layout.specs.Theorems.{PackedSize, FreshLedger, RoundTrips, ClaimsKept, AmountsKept, DemandThree, StoredLedgersBalance, StoredLedgersAnswer, PackedHistoriesHoldTheirFacts, PackedAnswersFromTheSheet, PackedSameAsPostings, AmendAltersNoRow, LargerRowsWereStored, NumberTwoMeetsNoCall, NumberTwoFirst}
use Rattle.layout.proofs.RoundTrips.{unpacked-packed, well-formed-exactly}
use Rattle.layout.proofs.Present.{present, format-laws, formed-length, facts-kept, repacked}
use Rattle.layout.proofs.Changes.{fresh-parts}
use Rattle.layout.proofs.Machine.{machine-malformed, machine-refused, machine-accepted}

pub packed_size : PackedSize
packed_size = record { number = refl; formed = formed-length }

pub claims_kept : ClaimsKept
claims_kept = record { at_most = λ b f. (facts-kept b f).claims; no_pence = λ b f. (facts-kept b f).unclaimed }

-- the header of a fresh ledger
fresh-header : (territory : ℕ) → territory ≤ 1 → header_bytes rules layout (fresh territory) ≡ territory * 128 ∷ replicate 7 0
unfolding size pack field_bits bytes_of_bits value bits_of fresh
fresh-header zero h = refl
fresh-header (suc zero) h = refl
fresh-header (suc (suc n)) h = absurd (omega arith)

pub fresh_ledger : FreshLedger
unfolding size
fresh_ledger territory h =
    fresh-parts rules layout refl refl territory
    ∙ ap (λ (header : List ℕ). header ++ replicate (ledger_length - 8) 0) (fresh-header territory h)
    ∙ ap (λ (zeros : List ℕ). territory * 128 ∷ zeros) (replicate-append-replicate 7 (ledger_length - 8) 0)

pub round_trips : RoundTrips
round_trips = record { facts_back = unpacked-packed present; bytes_back = repacked; formed_exactly = well-formed-exactly present }

pub packed_answers_from_the_sheet : PackedAnswersFromTheSheet
packed_answers_from_the_sheet = bytes-answer-from-the-sheet rules present.rules (format rules layout) format-laws

pub demand_three : DemandThree
demand_three =
    let balanced = bytes-balance rules present.rules (format rules layout) format-laws in
    record { balances = balanced; last_claim = accepted-claim-leaves-rest rules machine balanced packed_answers_from_the_sheet }

pub stored_ledgers_balance : StoredLedgersBalance
stored_ledgers_balance = bytes-balance-goes-on rules present.rules (format rules layout) format-laws

pub stored_ledgers_answer : StoredLedgersAnswer
stored_ledgers_answer = record {
  well_formed = stored-well-formed rules present.rules (format rules layout) format-laws;
  from_the_sheet = bytes-answer-from-the-stored-sheet rules present.rules (format rules layout) format-laws;
}

pub packed_histories_hold_their_facts : PackedHistoriesHoldTheirFacts
packed_histories_hold_their_facts = bytes-hold rules present.rules (format rules layout) format-laws

pub packed_same_as_postings : PackedSameAsPostings
packed_same_as_postings = bytes-same-as-postings rules present.rules (format rules layout) format-laws

rows-kept : (b : List ℕ) → Formed b → (c end fix entry : ℕ) (book : List ℕ) → (facts (machine.step b (Call.Amend c end fix entry with book))).rows ≡ (facts b).rows
unfolding accept
rows-kept b f c end fix entry book = go (refusal rules (view (facts b)) call) refl
  where
    call : CallWithBook
    call = Call.Amend c end fix entry with book

    rows_of : List ℕ → List Row
    rows_of after = (facts after).rows

    go : (n : ℕ) → refusal rules (view (facts b)) call ≡ n → (facts (machine.step b call)).rows ≡ (facts b).rows
    go zero e =
        let next = (accept rules (facts b) call).next in
        ap rows_of (machine-accepted present b call f e).left
        ∙ ap (λ (l : Ledger). l.rows) (unpacked-packed present next (stays-act rules present.rules (facts b) call (facts-kept b f) e))
    go (suc n) e = ap rows_of (machine-refused present b call f (suc n) (omega arith) e).left

no-numbers : (b : List ℕ) (c end fix entry : ℕ) (book : List ℕ) → values_in (machine.answer b (Call.Amend c end fix entry with book)) ≡ []
unfolding answer outcome accept
no-numbers b c end fix entry book = go (is_well_formed rules layout b) (refusal rules (view (facts b)) call)
  where
    call : CallWithBook
    call = Call.Amend c end fix entry with book

    go : (formed : Bool) (n : ℕ) → values_in (cond formed (unless_refused n (accept rules (facts b) call) (outcome_turned_down (facts b) n)).answers (Err 2)) ≡ []
    go true zero = refl
    go true (suc n) = refl
    go false n = refl

pub amend_alters_no_row : AmendAltersNoRow
amend_alters_no_row = record { answers = no-numbers; rows = rows-kept; parts = every-amend-keeps-parts rules present.rules }

pub larger_rows_were_stored : LargerRowsWereStored
larger_rows_were_stored = record {
  stored = bytes-larger-rows-stood-before present.rules (format rules layout) format-laws;
  none = bytes-no-larger-row present.rules (format rules layout) format-laws;
}

pub number_two_meets_no_call : NumberTwoMeetsNoCall
number_two_meets_no_call = bytes-well-formed rules present.rules (format rules layout) format-laws

pub number_two_first : NumberTwoFirst
number_two_first = record {
  refused = λ b none c. (machine-malformed present b c (malformed b none)).answered;
  unchanged = λ b none c. (machine-malformed present b c (malformed b none)).left;
}
  where
    malformed : (b : List ℕ) → (Formed b → ⊥) → is_well_formed rules layout b ≡ false
    malformed b none = go (is_well_formed rules layout b) refl
      where
        go : (f : Bool) → is_well_formed rules layout b ≡ f → f ≡ false
        go true e = absurd (none e)
        go false e = refl

pub amounts_kept : AmountsKept
amounts_kept = record {
  by_day = by-day-rated;
  refused = λ b none. number_two_first.refused b (λ f. none (by-day-rated b f));
  unchanged = λ b none. number_two_first.unchanged b (λ f. none (by-day-rated b f));
  taken = λ l w same. (round_trips.formed_exactly (bytes l)).1 (l, (stored_earlier.exactly l w).1 same, refl);
}
  where
    by-day-rated : (b : List ℕ) → Formed b → All (RatedByDay (facts b).contracts) (facts b).rows
    by-day-rated b f = by_day (facts b) (facts-kept b f)
