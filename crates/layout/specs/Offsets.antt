-- Document 01, "The packed ledger", with paper 1's rows and paper 5's contracts: how many bytes a contract and a row take, and where they begin and end, by their
-- fields. Assumes nothing.
use Rattle.std.specs.Prelude.{List, ℕ, ◌+◌, ◌*◌, ◌/◌, take, drop}
use Rattle.limits.specs.Limits.{contract_count, row_count}
use Rattle.fields.specs.Fields.{sum}
use Rattle.records.specs.Slots.{whole}
use Rattle.layout.specs.PresentLayout.{contract_record, row_record, present_layout}

-- the contracts come after the header
abbrev pub first_contract : ℕ
first_contract = sum present_layout.header / 8

abbrev pub contract_length : ℕ
contract_length = sum (whole contract_record) / 8

-- the bytes of the contract's slot with that number
abbrev pub contract_part : List ℕ → ℕ → List ℕ
contract_part b c = take contract_length (drop (first_contract + c * contract_length) b)

-- and the rows after the contracts
abbrev pub first_row : ℕ
first_row = first_contract + contract_count * contract_length

abbrev pub row_length : ℕ
row_length = sum (whole row_record) / 8

-- where row slot i begins, and its bytes
abbrev pub row_start : ℕ → ℕ
row_start i = first_row + i * row_length

abbrev pub row_part : List ℕ → ℕ → List ℕ
row_part b i = take row_length (drop (row_start i) b)

abbrev pub ledger_length : ℕ
ledger_length = row_start row_count
