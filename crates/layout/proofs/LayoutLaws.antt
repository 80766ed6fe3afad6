-- What a layout owes, and the tests of a well-formed ledger by name. Assumes nothing.
use mathlib.Core.Path.{◌≡◌, refl, ap}
use mathlib.Core.Bool.{true, not, ◌||◌}
use mathlib.Core.List.{List, [], ◌∷◌, map}
use Prim.Native.Nat.{ℕ, zero, suc, ◌^◌, ◌≤◌, ◌<◌}
use native.Mathlib.Omega.{arith}
use lib.Dec.{ltb, eqb}
use lib.Pow.{are_bytes}
use lib.ListN.{length, drop}
use Rattle.limits.specs.Limits.{row_count, most_claims}
use Rattle.basics.specs.Tests.{every}
use Rattle.basics.proofs.Tests.{either, and_left, and_right, and_yes, eq_yes, yes-eq, le_yes, yes_le, lt_yes, yes_lt, or_yes, every-at, every-all}
use Rattle.fields.specs.Field.{AreBytes}
use Rattle.fields.specs.Fields.{Fit}
use Rattle.records.specs.Pack.{WholeBytes}
use Rattle.records.specs.Slots.{slot_ok, slots, RecordLaws}
use Rattle.records.specs.Places.{is_in_order}
use Rattle.records.specs.Pairs.{every_pair}
use Rattle.rates.specs.declared.Contract.{Contract}
use Rattle.model.specs.declared.Row.{Row}
use Rattle.model.specs.OpenContracts.{Contracts}
use Rattle.model.specs.Rules.{Rules}
use Rattle.model.specs.WellFormed.{RowOk}
use Rattle.layout.specs.Layout.{Layout, row_tests, row_ok, comes_before, first_contract, first_row, ledger_length, claims_in, pence_in, contracts_in, row_slots, contract_test, row_test, well_formed_tests, is_well_formed}

pub record LayoutLaws (R : Rules) (L : Layout) : Type 0 where
  -- the header's three fields hold what a well-formed ledger has, and no more
  pub aligned : WholeBytes L.header
  pub three : length L.header ≡ 3
  pub fits : (t c p : ℕ) → t ≤ 1 → c ≤ most_claims → p < 2 ^ 47 → Fit L.header (t ∷ c ∷ p ∷ [])
  pub narrow : (t c p : ℕ) → Fit L.header (t ∷ c ∷ p ∷ []) → (t ≤ 1) × (p < 2 ^ 47)
  -- the records are those of their kinds, and their tests are the rules'
  pub contract : (t : ℕ) → RecordLaws L.contract (L.contract_ranges t)
  pub ranges : (t : ℕ) (k : Contract) → L.contract_ranges t (L.contract.values k) ≡ R.contract_ok t k
  pub row : (cs : Contracts) → RecordLaws L.row (row_test R L cs)
  pub row-values : (cs : Contracts) (x : Row) → RowOk R cs x → L.row.of (L.row.values x) ≡ x

-- ---- the tests as facts

pub are-fact : (b : List ℕ) → are_bytes b ≡ true → AreBytes b
are-fact [] e i = omega arith
are-fact (x ∷ b) e zero = lt_yes x 256 (and_left (ltb x 256) _ e)
are-fact (x ∷ b) e (suc i) = are-fact b (and_right (ltb x 256) _ e) i

pub are-test : (b : List ℕ) → AreBytes b → are_bytes b ≡ true
are-test [] h = refl
are-test (x ∷ b) h = and_yes _ _ (yes_lt x 256 (h 0)) (are-test b (λ i. h (suc i)))

pub row-facts : (R : Rules) (cs : Contracts) (x : Row) → row_ok R cs x ≡ true → RowOk R cs x
unfolding row_ok
row-facts R cs x e = record {
  number = lt_yes x.bill.contract R.contract_limit (every-at (row_tests R cs x) e 0);
  is_opened = every-at (row_tests R cs x) e 1;
  ranges = every-at (row_tests R cs x) e 2;
  part = eq_yes x.amount _ (every-at (row_tests R cs x) e 3);
}

pub row-test : (R : Rules) (cs : Contracts) (x : Row) → RowOk R cs x → row_ok R cs x ≡ true
unfolding row_ok
row-test R cs x o = every-all (row_tests R cs x) (yes_lt x.bill.contract R.contract_limit o.number, (o.is_opened, (o.ranges, (yes-eq x.amount _ o.part, tt))))

pub no_pence : (c p : ℕ) → not (eqb c 0) || eqb p 0 ≡ true → c ≡ 0 → p ≡ 0
no_pence c p e z = eq_yes p 0 (or_yes (not (eqb c 0)) _ e (ap not (yes-eq c 0 z)))

no-pence-test : (c p : ℕ) → (c ≡ 0 → p ≡ 0) → not (eqb c 0) || eqb p 0 ≡ true
no-pence-test c p f = either (eqb c 0) (λ e. rw e (yes-eq p 0 (f (eq_yes c 0 e)))) (λ e. rw e)

-- the tests of a well-formed ledger, by name
pub record Tested (R : Rules) (L : Layout) (b : List ℕ) : Type 0 where
  pub long : length b ≡ ledger_length R L
  pub bytes : AreBytes b
  pub claims : claims_in R L b ≤ most_claims
  pub pence : claims_in R L b ≡ 0 → pence_in R L b ≡ 0
  pub contracts : every (map (slot_ok L.contract (contract_test R L b)) (slots L.contract R.contract_limit (drop (first_contract R L) b))) ≡ true
  pub rows : every (map (slot_ok L.row (row_test R L (contracts_in R L b))) (slots L.row row_count (drop (first_row R L) b))) ≡ true
  pub order : every_pair (is_in_order comes_before) (row_slots R L b) ≡ true

module _ (R : Rules) (L : Layout) (b : List ℕ) where
  pub tested : is_well_formed R L b ≡ true → Tested R L b
  unfolding is_well_formed
  tested e =
      let at = every-at (well_formed_tests R L b) e in
      record {
        long = eq_yes (length b) (ledger_length R L) (at 0);
        bytes = are-fact b (at 1);
        claims = le_yes (claims_in R L b) most_claims (at 2);
        pence = no_pence (claims_in R L b) (pence_in R L b) (at 3);
        contracts = at 4;
        rows = at 5;
        order = at 6;
      }

  pub tests-passed : Tested R L b → is_well_formed R L b ≡ true
  unfolding is_well_formed
  tests-passed s = every-all (well_formed_tests R L b) (
    yes-eq (length b) (ledger_length R L) s.long,
    (
      are-test b s.bytes,
      (
        yes_le (claims_in R L b) most_claims s.claims,
        (
          no-pence-test (claims_in R L b) (pence_in R L b) s.pence,
          (s.contracts, (s.rows, (s.order, tt))),
        ),
      ),
    ),
  )
