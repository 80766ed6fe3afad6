-- Document 01, "The packed ledger", with paper 1's shares: the numbers of a row in the papers' order, and the row of such numbers. Assumes
-- nothing.
use Rattle.std.specs.Prelude.{List, [], ◌∷◌, ℕ, get_or}
use Rattle.model.specs.declared.Row.{Row}

-- contract, first day, last day, kWh, ETII share, QHS share, R, S, amount in ticks
abbrev pub numbers_of_row : Row → List ℕ
numbers_of_row x =
    x.bill.contract
    ∷ x.bill.first
    ∷ x.bill.last
    ∷ x.bill.kwh
    ∷ x.bill.etii
    ∷ x.bill.qhs
    ∷ x.bill.reference
    ∷ x.bill.supply
    ∷ x.amount
    ∷ []

abbrev pub row_of_numbers : List ℕ → Row
row_of_numbers v = record {
  bill = record {
    contract = get_or v 0 0;
    first = get_or v 1 0;
    last = get_or v 2 0;
    kwh = get_or v 3 0;
    etii = get_or v 4 0;
    qhs = get_or v 5 0;
    reference = get_or v 6 0;
    supply = get_or v 7 0;
  };
  amount = get_or v 8 0;
}
