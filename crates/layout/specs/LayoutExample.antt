-- Document 01, "The packed ledger", with paper 1's rows and paper 5's contracts: a ledger with a contract and a row, and its bytes to the end of
-- that row. Assumes nothing.
use Rattle.std.specs.Prelude.{◌≡◌, List, [], ◌∷◌, ◌++◌, ℕ, take, replicate, Some}
use Rattle.rates.specs.declared.Fuel.TheVariants.{Gas}
use Rattle.rates.specs.declared.Kind.TheVariants.{Fixed}
use Rattle.rates.specs.declared.Certificate.TheVariants.{Qhs}
use Rattle.rates.specs.declared.Contract.{Contract}
use Rattle.model.specs.declared.Row.{Row}
use Rattle.model.specs.OpenContracts.{no_contracts, put_contract}
use Rattle.model.specs.Ledger.{Ledger}
use Rattle.layout.specs.Present.{bytes}

-- gas, its price fixed on day 485, entered on day 851, QHS from day 511 on; amended with the original end 790, its price fixed on day 600, entered on
-- day 792
unfoldable pub example_contract : Contract
example_contract = record { fuel = Gas; kind = Fixed 485 851; certificate = Qhs 511; amendment = Some (record { original_end_day = 790; price_fix_day = 600; entry_day = 792 }) }

-- contract 5, days 511 to 515, 100,000,000 kWh, of these 60,000,000 in the ETII share and 30,000,000 in the QHS share, R 40,000, S 999,999,
-- 13,875,160,000,000 ticks
unfoldable pub example_row : Row
example_row = record {
  bill = record { contract = 5; first = 511; last = 515; kwh = 100000000; etii = 60000000; qhs = 30000000; reference = 40000; supply = 999999 };
  amount = 13875160000000;
}

-- Northern Ireland, claims made 1,000, net pence claimed 123,456,789,012
unfoldable pub example_ledger : Ledger
example_ledger = record { territory = 1; contracts = put_contract no_contracts 5 example_contract; rows = example_row ∷ []; claims = 1000; pence = 123456789012 }

-- the bytes of the header, of the contract and of the row
unfoldable pub header_bytes : List ℕ
header_bytes = 0x81 ∷ 0xf4 ∷ 0x00 ∷ 0x1c ∷ 0xbe ∷ 0x99 ∷ 0x1a ∷ 0x14 ∷ []

unfoldable pub contract_bytes : List ℕ
contract_bytes = 0xc7 ∷ 0x97 ∷ 0x53 ∷ 0x9f ∷ 0xfe ∷ 0x2d ∷ 0x2c ∷ 0x63 ∷ 0x00 ∷ []

unfoldable pub row_bytes : List ℕ
row_bytes =
    0x8a ∷ 0xff ∷ 0xc0 ∷ 0x77 ∷ 0xd7 ∷ 0x84 ∷ 0x01 ∷ 0xc9 ∷ 0xc3 ∷ 0x80 ∷ 0x1c ∷ 0x9c ∷ 0x38 ∷ 0x00 ∷ 0x9c ∷ 0x40 ∷ 0xf4 ∷ 0x23 ∷ 0xf0
    ∷ 0x32 ∷ 0x7a ∷ 0x3f ∷ 0xee ∷ 0x98 ∷ 0x00 ∷ []

-- the header in bytes 0 to 7, contract 5 in bytes 53 to 61, the first row in bytes 584 to 608
abbrev pub LayoutExample : Type 0
LayoutExample = take 609 (bytes example_ledger) ≡ header_bytes ++ (replicate 45 0 ++ (contract_bytes ++ (replicate 522 0 ++ row_bytes)))
