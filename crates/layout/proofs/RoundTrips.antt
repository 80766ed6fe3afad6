-- Packing then unpacking gives the facts, and unpacking then packing a well-formed ledger gives its bytes: for any layout that keeps its
-- laws. Assumes nothing.
use Rattle.std.specs.Prelude.{Option, None, Some}
use mathlib.Core.Path.{◌≡◌, refl, sym, ap, ap₂, ◌∙◌, subst, fun_ext}
use mathlib.Core.Bool.{Bool, true}
use mathlib.Core.List.{List, [], ◌∷◌, ◌++◌, map, append-nil}
use mathlib.Core.Logic.{◌↔◌}
use Prim.Native.Nat.{ℕ, zero, suc, ◌+◌, ◌-◌, ◌*◌, ◌^◌, ◌≤◌, ◌<◌}
use native.Mathlib.Omega.{arith}
use lib.ListN.{length, take, drop, get_or, length-append, length-drop, take-append-drop}
use lib.Seq.{drop_at, take_all, drop-drop, length-take-le}
use Rattle.limits.specs.Limits.{row_count, most_claims}
use Rattle.basics.specs.Tests.{every}
use Rattle.basics.specs.Lists.{All}
use Rattle.basics.proofs.Tests.{and_left, and_right, and_yes}
use Rattle.basics.proofs.Lists.{all_map}
use Rattle.fields.specs.Field.{AreBytes}
use Rattle.fields.specs.Fields.{Fit}
use Rattle.fields.proofs.Laws.{are-append, are-drop, are-take}
use Rattle.records.specs.Pack.{size, pack, unpack}
use Rattle.records.specs.Slots.{RecordLayout, whole, passes, slot_ok, slots, array_in, array_out}
use Rattle.records.specs.Places.{held, places, is_in_order}
use Rattle.records.specs.Numbered.{listed, numbered}
use Rattle.records.specs.Pairs.{every_pair}
use Rattle.records.proofs.Pack.{length-pack, are-pack, fit-unpack, unpack-pack, pack-unpack, unpack-append}
use Rattle.records.proofs.Slots.{fit_length, length-array_out, are-array_out, length-array_in, array-in-out, ok-array_out, passes-array_in, array-out-in}
use Rattle.records.proofs.Places.{held-places, length-places, length-held, places-held, pairs-held, pairs-places}
use Rattle.records.proofs.Numbered.{length-listed, numbered-listed, listed-numbered, numbered-beyond}
use Rattle.rates.specs.declared.Contract.{Contract}
use Rattle.model.specs.declared.Row.{Row}
use Rattle.model.specs.OpenContracts.{Contracts, contract_at, contract_in, is_open, is_there}
use Rattle.model.specs.Rules.{Rules}
use Rattle.model.specs.Ledger.{Ledger}
use Rattle.model.specs.WellFormed.{RowOk, WellFormed}
use Rattle.model.specs.Format.{FormatLaws}
use Rattle.model.proofs.RowBounds.{row-spans}
use Rattle.layout.specs.Layout.{Layout, row_ok, comes_before, first_contract, first_row, ledger_length, territory_in, claims_in, pence_in, contract_slots, contracts_in, row_slots, contract_test, row_test, is_well_formed, ledger_of, header_bytes, contract_bytes, row_bytes, bytes_of, format}
use Rattle.layout.proofs.Order.{pairs-apart, apart-pairs}
use Rattle.layout.proofs.Lawful.{Lawful}
use Rattle.layout.proofs.LayoutLaws.{row-facts, row-test, Tested, tested, tests-passed}

-- ---- slots by number, and the records that pass

module _ {A : Type 0} (k : RecordLayout A) (test : List ℕ → Bool) where
  -- what each record passes, its slot passes
  listed-passes : (n : ℕ) (f : ℕ → Option A) → ((i : ℕ) (a : A) → f i ≡ Some a → test (k.values a) ≡ true) → every (map (passes k test) (listed n f)) ≡ true
  listed-passes zero f h = refl
  listed-passes (suc n) f h = and_yes _ _ (go (f 0) refl) (listed-passes n (λ i. f (suc i)) (λ i a e. h (suc i) a e))
    where
      go : (o : Option A) → f 0 ≡ o → passes k test o ≡ true
      go None e = refl
      go (Some a) e = h 0 a e

  numbered-passes : (os : List (Option A)) → every (map (passes k test) os) ≡ true → (i : ℕ) (a : A) → numbered os i ≡ Some a → test (k.values a) ≡ true
  unfolding numbered
  numbered-passes [] e i a h = let z : ◌≡◌ {A = ℕ} 0 1 = cc in let y : ⊥ = omega arith in absurd y
  numbered-passes (None ∷ os) e zero a h = let z : ◌≡◌ {A = ℕ} 0 1 = cc in let y : ⊥ = omega arith in absurd y
  numbered-passes (Some x ∷ os) e zero a h =
      let p : x ≡ a = cc in
      subst (λ (y : A). test (k.values y) ≡ true) p (and_left (test (k.values x)) _ e)
  numbered-passes (o ∷ os) e (suc i) a h = numbered-passes os (and_right (passes k test o) _ e) i a h

  places-pass : (n : ℕ) (xs : List A) → All (λ x. test (k.values x) ≡ true) xs → every (map (passes k test) (places n xs)) ≡ true
  unfolding places
  places-pass n xs a = go xs (n - length xs) a
    where
      go : (ys : List A) (m : ℕ) → All (λ x. test (k.values x) ≡ true) ys → every (map (passes k test) (map Some ys ++ lib.ListN.replicate m None)) ≡ true
      go [] zero b = refl
      go [] (suc m) b = go [] m tt
      go (y ∷ ys) m b = and_yes _ _ b.0 (go ys m b.1)

  held-pass : (os : List (Option A)) → every (map (passes k test) os) ≡ true → All (λ x. test (k.values x) ≡ true) (held os)
  held-pass [] e = tt
  held-pass (None ∷ os) e = held-pass os e
  held-pass (Some x ∷ os) e = (and_left (test (k.values x)) _ e, held-pass os (and_right (test (k.values x)) _ e))

-- an open contract, by its slot
open-contract : (cs : Contracts) (c : ℕ) → is_open cs c ≡ true → cs c ≡ Some (contract_at cs c)
unfolding is_open contract_at
open-contract cs c e = go (cs c) e
  where
    go : (o : Option Contract) → is_there o ≡ true → o ≡ Some (contract_in o)
    go None h = absurd (mathlib.Core.Bool.false≢true h)
    go (Some k) h = refl

slot-contract : (cs : Contracts) (c : ℕ) (k : Contract) → cs c ≡ Some k → (is_open cs c ≡ true) × (contract_at cs c ≡ k)
unfolding is_open contract_at
slot-contract cs c k e = rw e (refl, refl)

-- a list of n elements, by its elements
pub listed-elements : (n : ℕ) (v : List ℕ) → length v ≡ n → listed n (λ i. get_or v i 0) ≡ v
listed-elements zero [] e = refl
listed-elements zero (x ∷ v) e = let z : ⊥ = omega arith in absurd z
listed-elements (suc n) [] e = let z : ⊥ = omega arith in absurd z
listed-elements (suc n) (x ∷ v) e = ap (λ (l : List ℕ). x ∷ l) (listed-elements n v (omega arith))

-- how long the parts are, whatever the facts or the bytes
module _ (R : Rules) (L : Layout) where
  pub length-header : (l : Ledger) → length (header_bytes R L l) ≡ first_contract R L
  unfolding first_contract
  length-header l = length-pack L.header (l.territory ∷ l.claims ∷ l.pence ∷ [])

  pub length-contracts : (l : Ledger) → length (contract_bytes R L l) ≡ R.contract_limit * size (whole L.contract)
  length-contracts l = length-array_out L.contract (listed R.contract_limit l.contracts) ∙ ap (λ (n : ℕ). n * size (whole L.contract)) (length-listed R.contract_limit l.contracts)

  pub length-row_slots : (b : List ℕ) → length (row_slots R L b) ≡ row_count
  unfolding row_slots
  length-row_slots b = length-array_in L.row row_count (drop (first_row R L) b)

  length-contract_slots : (b : List ℕ) → length (contract_slots R L b) ≡ R.contract_limit
  unfolding contract_slots
  length-contract_slots b = length-array_in L.contract R.contract_limit (drop (first_contract R L) b)

module _ {R : Rules} {L : Layout} (laws : Lawful R L) where
  -- a row's facts and its numbers' test
  row-passes : (cs : Contracts) (x : Row) → RowOk R cs x → row_test R L cs (L.row.values x) ≡ true
  row-passes cs x o = ap (row_ok R cs) (laws.layout.row-values cs x o) ∙ row-test R cs x o

  row-passed : (cs : Contracts) (x : Row) → row_test R L cs (L.row.values x) ≡ true → RowOk R cs x
  row-passed cs x e = row-facts R cs x (sym (ap (row_ok R cs) ((laws.layout.row cs).of_values x e)) ∙ e)

  -- ---- the bytes of well-formed facts
  module _ (l : Ledger) (f : WellFormed R l) where
    length-rows : length (row_bytes R L l) ≡ row_count * size (whole L.row)
    length-rows = length-array_out L.row (places row_count l.rows) ∙ ap (λ (n : ℕ). n * size (whole L.row)) (length-places row_count l.rows f.count)

    pub length-bytes_of : length (bytes_of R L l) ≡ ledger_length R L
    unfolding bytes_of ledger_length first_row
    length-bytes_of =
        length-append (header_bytes R L l) (contract_bytes R L l ++ row_bytes R L l) ∙ ap (λ (n : ℕ). length (header_bytes R L l) + n) (length-append (contract_bytes R L l) (row_bytes R L l))
        ∙ omega (arith, length-header R L l, length-contracts R L l, length-rows)

    are-bytes_of : AreBytes (bytes_of R L l)
    unfolding bytes_of
    are-bytes_of = are-append (header_bytes R L l) (contract_bytes R L l ++ row_bytes R L l)
        (are-pack L.header (l.territory ∷ l.claims ∷ l.pence ∷ []))
        (are-append (contract_bytes R L l) (row_bytes R L l) (are-array_out L.contract (listed R.contract_limit l.contracts)) (are-array_out L.row (places row_count l.rows)))

    after-header : drop (first_contract R L) (bytes_of R L l) ≡ contract_bytes R L l ++ row_bytes R L l
    unfolding bytes_of
    after-header = drop_at (header_bytes R L l) (contract_bytes R L l ++ row_bytes R L l) (first_contract R L) (length-header R L l)

    after-contracts : drop (first_row R L) (bytes_of R L l) ≡ row_bytes R L l ++ []
    unfolding first_row
    after-contracts =
        sym (drop-drop (R.contract_limit * size (whole L.contract)) (first_contract R L) (bytes_of R L l)) ∙ ap (drop (R.contract_limit * size (whole L.contract))) after-header
        ∙ drop_at (contract_bytes R L l) (row_bytes R L l) (R.contract_limit * size (whole L.contract)) (length-contracts R L l) ∙ sym (append-nil (row_bytes R L l))

    header-back : unpack L.header (bytes_of R L l) ≡ l.territory ∷ l.claims ∷ l.pence ∷ []
    unfolding bytes_of first_contract
    header-back =
        unpack-append (header_bytes R L l) (contract_bytes R L l ++ row_bytes R L l) L.header laws.layout.aligned (length-header R L l)
        ∙ unpack-pack L.header (l.territory ∷ l.claims ∷ l.pence ∷ []) laws.layout.aligned (laws.layout.fits l.territory l.claims l.pence f.territory f.claims f.pence)

    territory-back : territory_in R L (bytes_of R L l) ≡ l.territory
    unfolding territory_in
    territory-back = ap (λ (v : List ℕ). get_or v 0 0) header-back

    claims-back : claims_in R L (bytes_of R L l) ≡ l.claims
    unfolding claims_in
    claims-back = ap (λ (v : List ℕ). get_or v 1 0) header-back

    pence-back : pence_in R L (bytes_of R L l) ≡ l.pence
    unfolding pence_in
    pence-back = ap (λ (v : List ℕ). get_or v 2 0) header-back

    contracts-pass : every (map (passes L.contract (L.contract_ranges l.territory)) (listed R.contract_limit l.contracts)) ≡ true
    contracts-pass = listed-passes L.contract (L.contract_ranges l.territory) R.contract_limit l.contracts
        (λ c k e. let s = slot-contract l.contracts c k e in laws.layout.ranges l.territory k ∙ subst (λ (j : Contract). R.contract_ok l.territory j ≡ true) s.1 (f.contracts c s.0))

    rows_pass : every (map (passes L.row (row_test R L l.contracts)) (places row_count l.rows)) ≡ true
    rows_pass = places-pass L.row (row_test R L l.contracts) row_count l.rows (all_map (RowOk R l.contracts) _ (row-passes l.contracts) l.rows f.rows)

    contracts-back : contracts_in R L (bytes_of R L l) ≡ l.contracts
    unfolding contract_slots
    contracts-back =
        ap numbered
        (ap (array_in L.contract R.contract_limit) after-header
        ∙ array-in-out L.contract (L.contract_ranges l.territory) (laws.layout.contract l.territory) R.contract_limit (listed R.contract_limit l.contracts) (row_bytes R L l)
        (length-listed R.contract_limit l.contracts) contracts-pass)
        ∙ fun_ext (numbered-listed R.contract_limit l.contracts f.numbers)

    rows_back : row_slots R L (bytes_of R L l) ≡ places row_count l.rows
    unfolding row_slots
    rows_back = ap (array_in L.row row_count) after-contracts
        ∙ array-in-out L.row (row_test R L l.contracts) (laws.layout.row l.contracts) row_count (places row_count l.rows) [] (length-places row_count l.rows f.count) rows_pass

    -- packing then unpacking gives the facts
    pub unpacked-packed : ledger_of R L (bytes_of R L l) ≡ l
    unfolding ledger_of
    unpacked-packed = λ i. record {
      territory = territory-back i;
      contracts = contracts-back i;
      rows = (ap held rows_back ∙ held-places row_count l.rows) i;
      claims = claims-back i;
      pence = pence-back i;
    }

    contracts-tested : every (map (slot_ok L.contract (contract_test R L (bytes_of R L l))) (slots L.contract R.contract_limit (drop (first_contract R L) (bytes_of R L l)))) ≡ true
    contracts-tested =
        ap₂ (λ (t : ℕ) (d : List ℕ). every (map (slot_ok L.contract (L.contract_ranges t)) (slots L.contract R.contract_limit d))) territory-back after-header
        ∙ ok-array_out L.contract (L.contract_ranges l.territory) (laws.layout.contract l.territory) R.contract_limit (listed R.contract_limit l.contracts) (row_bytes R L l)
        (length-listed R.contract_limit l.contracts) contracts-pass

    rows-tested : every (map (slot_ok L.row (row_test R L (contracts_in R L (bytes_of R L l)))) (slots L.row row_count (drop (first_row R L) (bytes_of R L l)))) ≡ true
    rows-tested =
        ap₂ (λ (cs : Contracts) (d : List ℕ). every (map (slot_ok L.row (row_test R L cs)) (slots L.row row_count d))) contracts-back after-contracts
        ∙ ok-array_out L.row (row_test R L l.contracts) (laws.layout.row l.contracts) row_count (places row_count l.rows) [] (length-places row_count l.rows f.count) rows_pass

    -- the bytes of well-formed facts are well formed
    pub packed-well-formed : is_well_formed R L (bytes_of R L l) ≡ true
    packed-well-formed = tests-passed R L (bytes_of R L l) (record {
      long = length-bytes_of;
      bytes = are-bytes_of;
      claims = subst (λ (n : ℕ). n ≤ most_claims) (sym claims-back) f.claims;
      pence = λ z. pence-back ∙ f.unclaimed (sym claims-back ∙ z);
      contracts = contracts-tested;
      rows = rows-tested;
      order = ap (every_pair (is_in_order comes_before)) rows_back
          ∙ pairs-places comes_before row_count l.rows (apart-pairs l.rows (row-spans laws.rules l.contracts l.rows f.rows) f.apart);
    })

  -- ---- the facts of well-formed bytes
  module _ (b : List ℕ) (s : Tested R L b) where
    header-values : territory_in R L b ∷ claims_in R L b ∷ pence_in R L b ∷ [] ≡ unpack L.header b
    unfolding territory_in claims_in pence_in
    header-values = listed-elements 3 (unpack L.header b) (fit_length L.header (unpack L.header b) (fit-unpack L.header b) ∙ laws.layout.three)

    header-narrow : (territory_in R L b ≤ 1) × (pence_in R L b < 2 ^ 47)
    header-narrow = laws.layout.narrow (territory_in R L b) (claims_in R L b) (pence_in R L b) (subst (Fit L.header) (sym header-values) (fit-unpack L.header b))

    contracts-passed : every (map (passes L.contract (contract_test R L b)) (contract_slots R L b)) ≡ true
    unfolding contract_slots
    contracts-passed = passes-array_in L.contract (contract_test R L b) (laws.layout.contract (territory_in R L b)) R.contract_limit (drop (first_contract R L) b) s.contracts

    rows-passed : every (map (passes L.row (row_test R L (contracts_in R L b))) (row_slots R L b)) ≡ true
    unfolding row_slots
    rows-passed = passes-array_in L.row (row_test R L (contracts_in R L b)) (laws.layout.row (contracts_in R L b)) row_count (drop (first_row R L) b) s.rows

    held_rows : All (RowOk R (contracts_in R L b)) (held (row_slots R L b))
    held_rows = all_map _ (RowOk R (contracts_in R L b)) (row-passed (contracts_in R L b)) (held (row_slots R L b)) (held-pass L.row (row_test R L (contracts_in R L b)) (row_slots R L b) rows-passed)

    -- the facts of well-formed bytes are well formed
    pub unpacked-well-formed : WellFormed R (ledger_of R L b)
    unfolding ledger_of
    unpacked-well-formed = record {
      territory = header-narrow.0;
      claims = s.claims;
      pence = header-narrow.1;
      unclaimed = s.pence;
      numbers = λ c h. numbered-beyond (contract_slots R L b) c (omega (arith, length-contract_slots R L b));
      contracts = λ c e. sym (laws.layout.ranges (territory_in R L b) (contract_at (contracts_in R L b) c))
          ∙ numbered-passes L.contract (contract_test R L b) (contract_slots R L b) contracts-passed c (contract_at (contracts_in R L b) c) (open-contract (contracts_in R L b) c e);
      count = omega (arith, length-held (row_slots R L b), length-row_slots R L b);
      rows = held_rows;
      apart = pairs-apart (held (row_slots R L b)) (row-spans laws.rules (contracts_in R L b) (held (row_slots R L b)) held_rows)
          (pairs-held comes_before (row_slots R L b) s.order);
    }

    all-of-it : first_contract R L + (R.contract_limit * size (whole L.contract) + row_count * size (whole L.row)) ≡ length b
    unfolding ledger_length first_row
    all-of-it = omega (arith, s.long)

    header-again : header_bytes R L (ledger_of R L b) ≡ take (first_contract R L) b
    unfolding ledger_of first_contract
    header-again =
        ap (pack L.header) (header-values ∙ sym (ap (unpack L.header) (take-append-drop (size L.header) b))
        ∙ unpack-append (take (size L.header) b) (drop (size L.header) b) L.header laws.layout.aligned (length-take-le (size L.header) b (omega (arith, all-of-it))))
        ∙ pack-unpack L.header (take (size L.header) b) laws.layout.aligned (are-take (size L.header) b s.bytes) (length-take-le (size L.header) b (omega (arith, all-of-it)))

    contracts-again : contract_bytes R L (ledger_of R L b) ≡ take (R.contract_limit * size (whole L.contract)) (drop (first_contract R L) b)
    unfolding ledger_of contract_slots
    contracts-again = ap (array_out L.contract) (listed-numbered R.contract_limit (contract_slots R L b) (length-contract_slots R L b))
        ∙ array-out-in L.contract (contract_test R L b) (laws.layout.contract (territory_in R L b)) R.contract_limit (drop (first_contract R L) b)
        (omega (arith, all-of-it, length-drop (first_contract R L) b)) (are-drop (first_contract R L) b s.bytes) s.contracts

    rows-again : row_bytes R L (ledger_of R L b) ≡ drop (first_row R L) b
    unfolding ledger_of row_slots first_row
    rows-again =
        ap (λ (n : ℕ). array_out L.row (places n (held (row_slots R L b)))) (sym (length-row_slots R L b))
        ∙ ap (array_out L.row) (places-held comes_before (row_slots R L b) s.order)
        ∙ array-out-in L.row (row_test R L (contracts_in R L b)) (laws.layout.row (contracts_in R L b)) row_count (drop (first_row R L) b)
        (omega (arith, all-of-it, length-drop (first_row R L) b)) (are-drop (first_row R L) b s.bytes) s.rows
        ∙ take_all (row_count * size (whole L.row)) (drop (first_row R L) b) (omega (arith, all-of-it, length-drop (first_row R L) b))

    pub packed-unpacked : bytes_of R L (ledger_of R L b) ≡ b
    unfolding bytes_of first_row
    packed-unpacked =
        ap₂ (λ (x y : List ℕ). x ++ y) header-again
        (ap₂ (λ (x y : List ℕ). x ++ y) contracts-again (rows-again ∙ sym (drop-drop (R.contract_limit * size (whole L.contract)) (first_contract R L) b))
        ∙ take-append-drop (R.contract_limit * size (whole L.contract)) (drop (first_contract R L) b))
        ∙ take-append-drop (first_contract R L) b

  pub format-laws : FormatLaws R (format R L)
  format-laws = record {
    unpacked = λ b e. unpacked-well-formed b (tested R L b e);
    packed = packed-well-formed;
    packed_back = unpacked-packed;
  }

  -- unpacking then packing a well-formed ledger gives its bytes
  pub repacked : (b : List ℕ) → is_well_formed R L b ≡ true → bytes_of R L (ledger_of R L b) ≡ b
  repacked b e = packed-unpacked b (tested R L b e)

  -- exactly the bytes of well-formed facts are well formed
  pub well-formed-exactly : (b : List ℕ) → (is_well_formed R L b ≡ true) ↔ ((l : Ledger) × WellFormed R l × (bytes_of R L l ≡ b))
  well-formed-exactly b = (
    (λ e. (ledger_of R L b, unpacked-well-formed b (tested R L b e), repacked b e)),
    (λ p. subst (λ (c : List ℕ). is_well_formed R L c ≡ true) p.2 (packed-well-formed p.0 p.1)),
  )
