-- Document 01, "The packed ledger", with paper 5's amendments: the numbers of a contract in the papers' order, and the contract of such numbers.
-- Assumes nothing.
use Rattle.std.specs.Prelude.{List, [], ◌∷◌, ℕ, get_or}
use Rattle.rates.specs.declared.Contract.{Contract}
use Rattle.model.specs.Codes.{fuel_of, fuel_code, kind_of, kind_code, price_fix_day_of, entry_day_of, certificate_of, class_code, effective_day_of, amendment_of, amendment_flag_of, original_end_day_of, amended_price_fix_day_of, amended_entry_day_of}

-- fuel, kind, price-fix day, entry day, class, effective day; then of the amendment a flag, the original end, the price-fix day and the entry day
abbrev pub numbers_of_contract : Contract → List ℕ
numbers_of_contract k =
    fuel_code k.fuel
    ∷ kind_code k.kind
    ∷ price_fix_day_of k.kind
    ∷ entry_day_of k.kind
    ∷ class_code k.certificate
    ∷ effective_day_of k.certificate
    ∷ amendment_flag_of k.amendment
    ∷ original_end_day_of k.amendment
    ∷ amended_price_fix_day_of k.amendment
    ∷ amended_entry_day_of k.amendment
    ∷ []

-- each of them, by its place
abbrev pub fuel_in : List ℕ → ℕ
fuel_in v = get_or v 0 0

abbrev pub kind_in : List ℕ → ℕ
kind_in v = get_or v 1 0

abbrev pub price_fix_day_in : List ℕ → ℕ
price_fix_day_in v = get_or v 2 0

abbrev pub entry_day_in : List ℕ → ℕ
entry_day_in v = get_or v 3 0

abbrev pub class_in : List ℕ → ℕ
class_in v = get_or v 4 0

abbrev pub effective_day_in : List ℕ → ℕ
effective_day_in v = get_or v 5 0

abbrev pub amendment_flag_in : List ℕ → ℕ
amendment_flag_in v = get_or v 6 0

abbrev pub original_end_day_in : List ℕ → ℕ
original_end_day_in v = get_or v 7 0

abbrev pub amended_price_fix_day_in : List ℕ → ℕ
amended_price_fix_day_in v = get_or v 8 0

abbrev pub amended_entry_day_in : List ℕ → ℕ
amended_entry_day_in v = get_or v 9 0

-- the contract of such numbers
abbrev pub contract_of_numbers : List ℕ → Contract
contract_of_numbers v = record {
  fuel = fuel_of (fuel_in v);
  kind = kind_of (kind_in v) (price_fix_day_in v) (entry_day_in v);
  certificate = certificate_of (class_in v) (effective_day_in v);
  amendment = amendment_of (amendment_flag_in v) (original_end_day_in v) (amended_price_fix_day_in v) (amended_entry_day_in v);
}
