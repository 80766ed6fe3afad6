-- The well-formed test from its parts: the length, the header, the contracts and the rows. Assumes nothing.
use mathlib.Core.Path.{◌≡◌, refl, sym, ap}
use mathlib.Core.Bool.{Bool, true, false, not, cond, ◌&&◌, ◌||◌}
use mathlib.Core.List.{List, [], ◌∷◌, map}
use Prim.Native.Nat.{ℕ}
use lib.Dec.{leb, eqb}
use lib.ListN.{length, drop}
use Rattle.limits.specs.Limits.{row_count, most_claims}
use Rattle.basics.specs.Tests.{every}
use Rattle.basics.specs.Lists.{total}
use Rattle.basics.proofs.Tests.{yes-eq, no_eq, and_left, and_right}
use Rattle.fields.specs.Field.{AreBytes}
use Rattle.records.specs.Slots.{slot_ok, slots}
use Rattle.records.specs.Places.{held, is_in_order}
use Rattle.records.specs.Pairs.{every_pair}
use Rattle.model.specs.Rules.{Rules}
use Rattle.model.specs.Ledger.{due}
use Rattle.layout.specs.Layout.{Layout, first_row, ledger_length, claims_in, pence_in, row_test, contracts_in, row_slots, comes_before, is_well_formed, ledger_of}
use Rattle.layout.proofs.LayoutLaws.{are-test}
use Rattle.layout.specs.Check.{checked_of, header_ok, contracts_ok, rows_checked_of, malformed, well_formed}

-- ---- seven tests, of which the first two are met

module _ (p q r s t u v : Bool) (long : p ≡ true) (bytes : q ≡ true) where
  abbrev seven : List Bool
  seven = p ∷ q ∷ r ∷ s ∷ t ∷ u ∷ v ∷ []

  header-fails : r && s ≡ false → every seven ≡ false
  header-fails e = rw (long, bytes) (go r s e)
    where
      go : (r s : Bool) → r && s ≡ false → r && (s && (t && (u && (v && true)))) ≡ false
      go true s e = rw e
      go false s e = refl

  contracts-fail : r && s ≡ true → t ≡ false → every seven ≡ false
  contracts-fail e f = rw (long, bytes, and_left r s e, and_right r s e, f)

  rows-decide : r && s ≡ true → t ≡ true → every seven ≡ u && v
  rows-decide e f = rw (long, bytes, and_left r s e, and_right r s e, f) (go u v)
    where
      go : (u v : Bool) → u && (v && true) ≡ u && v
      go true true = refl
      go true false = refl
      go false v = refl

module _ (R : Rules) (L : Layout) (b : List ℕ) where
  refused : is_well_formed R L b ≡ false → malformed ≡ checked_of R L b
  unfolding checked_of
  refused e = rw e

  pub other_length : (length b ≡ ledger_length R L → ⊥) → malformed ≡ checked_of R L b
  unfolding is_well_formed
  other_length n = refused (rw (no_eq (length b) (ledger_length R L) n))

  module _ (bytes : AreBytes b) (l : length b ≡ ledger_length R L) where
    long : eqb (length b) (ledger_length R L) ≡ true
    long = yes-eq (length b) (ledger_length R L) l

    -- the tests of claims and pence, and those of the contracts, the rows and their order
    abbrev claims_tested : Bool
    claims_tested = leb (claims_in R L b) most_claims

    abbrev pence_tested : Bool
    pence_tested = not (eqb (claims_in R L b) 0) || eqb (pence_in R L b) 0

    abbrev slots_tested : Bool
    slots_tested = every (map (slot_ok L.row (row_test R L (contracts_in R L b))) (slots L.row row_count (drop (first_row R L) b)))

    abbrev order_tested : Bool
    order_tested = every_pair (is_in_order comes_before) (row_slots R L b)

    pub header-malformed : header_ok R L b ≡ false → malformed ≡ checked_of R L b
    unfolding is_well_formed header_ok
    header-malformed e = refused (header-fails _ _ claims_tested pence_tested (contracts_ok R L b) slots_tested order_tested long (are-test b bytes) e)

    pub contracts-malformed : header_ok R L b ≡ true → contracts_ok R L b ≡ false → malformed ≡ checked_of R L b
    unfolding is_well_formed header_ok
    contracts-malformed e f = refused (contracts-fail _ _ claims_tested pence_tested (contracts_ok R L b) slots_tested order_tested long (are-test b bytes) e f)

    decided : header_ok R L b ≡ true → contracts_ok R L b ≡ true → is_well_formed R L b ≡ slots_tested && order_tested
    unfolding is_well_formed header_ok
    decided e f = rows-decide _ _ claims_tested pence_tested (contracts_ok R L b) slots_tested order_tested long (are-test b bytes) e f

    pub rows-checked : header_ok R L b ≡ true → contracts_ok R L b ≡ true → rows_checked_of R L b ≡ checked_of R L b
    unfolding checked_of rows_checked_of ledger_of due
    rows-checked e f =
        ap (λ (p : Bool). cond p (well_formed (length (held (row_slots R L b))) (total (λ x. x.amount) (held (row_slots R L b)))) malformed)
        (sym (decided e f))
