-- What a well-formed check finds, over any rules and layout. `checked_of` is the answer; the rest says what its parts find. Assumes nothing.
use Rattle.std.specs.Prelude.{◌≡◌, Bool, true, not, cond, ◌&&◌, ◌||◌, List, map, ℕ, suc, leb, eqb, length, drop, get_or, Result, Ok, Err, Option, Some, None}
use Rattle.limits.specs.Limits.{row_count, most_claims}
use Rattle.basics.specs.Tests.{every}
use Rattle.basics.specs.Lists.{total}
use Rattle.records.specs.Slots.{all_zero, slot_ok, slots, record_fields}
use Rattle.records.specs.OneSlot.{slot_at}
use Rattle.records.specs.Places.{held, is_in_order}
use Rattle.records.specs.Pairs.{every_pair}
use Rattle.refusals.specs.declared.Refusal.{Refusal}
use Rattle.refusals.specs.declared.Refusal.TheVariants.{NotWellFormed}
use Rattle.model.specs.declared.Row.{Row}
use Rattle.model.specs.Rules.{Rules}
use Rattle.model.specs.Ledger.{due}
use Rattle.layout.specs.Layout.{Layout, first_contract, first_row, claims_in, pence_in, contracts_in, row_slots, contract_test, row_test, comes_before, is_well_formed, ledger_of}
use Rattle.layout.specs.declared.Totals.{Totals}

-- what a check finds: number 2, or how many rows are held and the sum of their amounts
abbrev pub malformed : Result Totals Refusal
malformed = Err NotWellFormed

abbrev pub well_formed : (rows due : ℕ) → Result Totals Refusal
well_formed rows due = Ok (record { rows = rows; due = due })

module _ (R : Rules) (L : Layout) where
  -- of a well-formed ledger the number of its rows and the sum of their amounts, and of any other bytes number 2
  unfoldable pub checked_of : List ℕ → Result Totals Refusal
  checked_of b = cond (is_well_formed R L b) (well_formed (length (ledger_of R L b).rows) (due (ledger_of R L b))) malformed

  -- the tests of the header
  unfoldable pub header_ok : List ℕ → Bool
  header_ok b = leb (claims_in R L b) most_claims && (not (eqb (claims_in R L b) 0) || eqb (pence_in R L b) 0)

  -- the tests of all contracts
  abbrev pub contracts_ok : List ℕ → Bool
  contracts_ok b = every (map (slot_ok L.contract (contract_test R L b)) (slots L.contract R.contract_limit (drop (first_contract R L) b)))

  -- the numbers of row slot i, and its row
  abbrev pub row_slot_at : List ℕ → ℕ → List ℕ
  row_slot_at b i = slot_at L.row (first_row R L) b i

  unfoldable pub row_at : List ℕ → ℕ → Row
  row_at b i = L.row.of (record_fields L.row (row_slot_at b i))

  -- what is read of a slot's numbers: number 2, where bits that must stay zero are not; or its row, unless it is free
  unfoldable pub slot_read : List ℕ → Result (Option Row) Refusal
  slot_read v = cond (eqb (get_or v 0 0) 0) (Ok None) (cond (all_zero (drop (suc (length L.row.widths)) v)) (Ok (Some (L.row.of (record_fields L.row v)))) (Err NotWellFormed))

  -- all rows: their slots and their order, over all pairs
  unfoldable pub rows_checked_of : List ℕ → Result Totals Refusal
  rows_checked_of b =
      cond
      (every (map (slot_ok L.row (row_test R L (contracts_in R L b))) (slots L.row row_count (drop (first_row R L) b)))
      && every_pair (is_in_order comes_before) (row_slots R L b))
      (well_formed (length (held (row_slots R L b))) (total (λ x. x.amount) (held (row_slots R L b))))
      malformed

  -- a well-formed ledger, and the number of its rows
  pub record Searched (b : List ℕ) (rows : ℕ) : Type 0 where
    pub formed : is_well_formed R L b ≡ true
    pub count : rows ≡ length (ledger_of R L b).rows
