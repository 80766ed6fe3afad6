-- The numbers of a contract, as the code holds them, in the list of the papers' order. Assumes nothing.
use Rattle.std.specs.Prelude.{List, [], ◌∷◌, ℕ}
use Rattle.rules.specs.declared.codes.ContractNumbers.{ContractNumbers}

abbrev pub listed : ContractNumbers → List ℕ
listed n =
    n.fuel
    ∷ n.kind
    ∷ n.price_fix_day
    ∷ n.entry_day
    ∷ n.class
    ∷ n.effective_day
    ∷ n.amendment_flag
    ∷ n.original_end_day
    ∷ n.amended_price_fix_day
    ∷ n.amended_entry_day
    ∷ []
