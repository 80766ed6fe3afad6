-- Document 01, "The packed ledger", with paper 1's shares and paper 5's amendments. Assumes nothing.
use Rattle.std.specs.Prelude.{[], ◌∷◌}
use Rattle.records.specs.Slots.{RecordLayout}
use Rattle.rates.specs.declared.Contract.{Contract}
use Rattle.model.specs.declared.Row.{Row}
use Rattle.model.specs.ContractNumbers.{numbers_of_contract, contract_of_numbers}
use Rattle.model.specs.RowNumbers.{numbers_of_row, row_of_numbers}
use Rattle.model.specs.PresentRules.{contract_ranges}
use Rattle.layout.specs.Layout.{Layout}

-- after the bit open: fuel 1, kind 2, price-fix day 10, entry day 10, class 2, effective day 10; of the amendment a flag 1, original end day 10,
-- price-fix day 10, entry day 10; zeros 5
abbrev pub contract_record : RecordLayout Contract
contract_record = record {
  widths = 1 ∷ 2 ∷ 10 ∷ 10 ∷ 2 ∷ 10 ∷ 1 ∷ 10 ∷ 10 ∷ 10 ∷ [];
  zeros = 5 ∷ [];
  values = numbers_of_contract;
  of = contract_of_numbers;
}

-- after the bit held: contract 6, first day 10, last day 10, kWh 27, ETII share 27, QHS share 27, R 20, S 20, amount in ticks 50, zeros 2
abbrev pub row_record : RecordLayout Row
row_record = record {
  widths = 6 ∷ 10 ∷ 10 ∷ 27 ∷ 27 ∷ 27 ∷ 20 ∷ 20 ∷ 50 ∷ [];
  zeros = 2 ∷ [];
  values = numbers_of_row;
  of = row_of_numbers;
}

-- header: territory 1, claims made 16, net pence claimed 47
abbrev pub present_layout : Layout
present_layout = record { header = 1 ∷ 16 ∷ 47 ∷ []; contract = contract_record; contract_ranges = contract_ranges; row = row_record }
