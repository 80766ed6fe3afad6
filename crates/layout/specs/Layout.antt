-- A packed ledger, by its layout: which bytes are well formed, which facts they hold, and the bytes that hold given facts. Assumes nothing.
use Rattle.std.specs.Prelude.{Bool, not, ◌&&◌, ◌||◌, List, [], ◌∷◌, ◌++◌, map, ℕ, ◌+◌, ◌*◌, leb, ltb, eqb, length, get_or, drop, Option}
use Rattle.std.proofs.Math.Pow.{are_bytes}
use Rattle.limits.specs.Limits.{row_count, most_claims}
use Rattle.basics.specs.Tests.{every}
use Rattle.records.specs.Pack.{size, pack, unpack}
use Rattle.records.specs.Slots.{RecordLayout, whole, slot_ok, slots, array_in, array_out}
use Rattle.records.specs.Places.{held, places, is_in_order}
use Rattle.records.specs.Numbered.{listed, numbered}
use Rattle.records.specs.Pairs.{every_pair}
use Rattle.rates.specs.declared.Contract.{Contract}
use Rattle.model.specs.declared.Row.{Row}
use Rattle.model.specs.OpenContracts.{Contracts, contract_of, is_open}
use Rattle.model.specs.Calls.{sharing}
use Rattle.model.specs.Rules.{Rules, part_of_due}
use Rattle.model.specs.Ledger.{Ledger, sorts_after}
use Rattle.model.specs.Format.{Format, bytes_machine}
use Rattle.model.specs.History.{Machine}

-- the widths of the header's fields (territory, claims made, net pence claimed), a contract's record with the ranges of its numbers,
-- and a row's record
pub record Layout : Type 0 where
  pub header : List ℕ
  pub contract : RecordLayout Contract
  pub contract_ranges : (territory : ℕ) → List ℕ → Bool
  pub row : RecordLayout Row

-- a held row: its contract is open, it keeps the ranges, and its amount is its part of due
abbrev pub row_tests : Rules → Contracts → Row → List Bool
row_tests R cs x =
    ltb x.bill.contract R.contract_limit
    ∷ is_open cs x.bill.contract
    ∷ R.bill_ok (contract_of cs x.bill) x.bill
    ∷ eqb x.amount (part_of_due R cs x.bill)
    ∷ []

unfoldable pub row_ok : Rules → Contracts → Row → Bool
row_ok R cs x = every (row_tests R cs x)

-- of two rows, the earlier first: ascending by contract then first day, and no two of a contract share a day
unfoldable pub comes_before : Row → Row → Bool
comes_before x y = sorts_after y.bill x.bill && not (sharing x.bill.contract x.bill.first x.bill.last y.bill)

-- ---- the bytes

module _ (R : Rules) (L : Layout) where
  -- where the contracts and the rows begin, and the end
  unfoldable pub first_contract : ℕ
  first_contract = size L.header

  unfoldable pub first_row : ℕ
  first_row = first_contract + R.contract_limit * size (whole L.contract)

  unfoldable pub ledger_length : ℕ
  ledger_length = first_row + row_count * size (whole L.row)

  -- the header's numbers
  unfoldable pub territory_in : List ℕ → ℕ
  territory_in b = get_or (unpack L.header b) 0 0

  unfoldable pub claims_in : List ℕ → ℕ
  claims_in b = get_or (unpack L.header b) 1 0

  unfoldable pub pence_in : List ℕ → ℕ
  pence_in b = get_or (unpack L.header b) 2 0

  -- what the slots of the contracts and of the rows hold
  unfoldable pub contract_slots : List ℕ → List (Option Contract)
  contract_slots b = array_in L.contract R.contract_limit (drop first_contract b)

  abbrev pub contracts_in : List ℕ → Contracts
  contracts_in b = numbered (contract_slots b)

  unfoldable pub row_slots : List ℕ → List (Option Row)
  row_slots b = array_in L.row row_count (drop first_row b)

  -- the test of a contract's numbers, and of a row's
  abbrev pub contract_test : List ℕ → List ℕ → Bool
  contract_test b v = L.contract_ranges (territory_in b) v

  abbrev pub row_test : Contracts → List ℕ → Bool
  row_test cs v = row_ok R cs (L.row.of v)

  -- well formed: that length; claims at most 1,000, and no pence where no claim was made; contracts and rows keep their ranges, with zeros
  -- where there is none; held rows first, and of any two the earlier one comes before
  abbrev pub well_formed_tests : List ℕ → List Bool
  well_formed_tests b =
      eqb (length b) ledger_length
      ∷ are_bytes b
      ∷ leb (claims_in b) most_claims
      ∷ (not (eqb (claims_in b) 0) || eqb (pence_in b) 0)
      ∷ every (map (slot_ok L.contract (contract_test b)) (slots L.contract R.contract_limit (drop first_contract b)))
      ∷ every (map (slot_ok L.row (row_test (contracts_in b))) (slots L.row row_count (drop first_row b)))
      ∷ every_pair (is_in_order comes_before) (row_slots b)
      ∷ []

  unfoldable pub is_well_formed : List ℕ → Bool
  is_well_formed b = every (well_formed_tests b)

  -- the facts that well-formed bytes hold
  unfoldable pub ledger_of : List ℕ → Ledger
  ledger_of b = record { territory = territory_in b; contracts = contracts_in b; rows = held (row_slots b); claims = claims_in b; pence = pence_in b }

  -- the bytes that hold given facts
  abbrev pub header_bytes : Ledger → List ℕ
  header_bytes l = pack L.header (l.territory ∷ l.claims ∷ l.pence ∷ [])

  abbrev pub contract_bytes : Ledger → List ℕ
  contract_bytes l = array_out L.contract (listed R.contract_limit l.contracts)

  abbrev pub row_bytes : Ledger → List ℕ
  row_bytes l = array_out L.row (places row_count l.rows)

  unfoldable pub bytes_of : Ledger → List ℕ
  bytes_of l = header_bytes l ++ (contract_bytes l ++ row_bytes l)

  abbrev pub format : Format
  format = record { Bytes = List ℕ; is_well_formed = is_well_formed; unpack = ledger_of; pack = bytes_of }

  -- the machine on the bytes
  abbrev pub machine_of : Machine
  machine_of = bytes_machine R format
