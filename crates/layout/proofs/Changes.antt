-- What a change of the facts does to the bytes that hold them, over any rules and layout. Assumes nothing.
use Rattle.std.specs.Prelude.{Option, None, Some}
use mathlib.Core.Path.{◌≡◌, refl, sym, ap, ap₂, ◌∙◌}
use mathlib.Core.List.{List, [], ◌∷◌, ◌++◌, append_assoc, append-nil}
use Prim.Native.Nat.{ℕ, zero, suc, ◌+◌, ◌*◌, ◌≤◌, ◌<◌}
use native.Mathlib.Nat.{sub-zero}
use native.Mathlib.Omega.{arith}
use lib.ListN.{length, set, replicate, length-append, length-replicate, replicate-append-replicate}
use Rattle.limits.specs.Limits.{row_count}
use Rattle.basics.proofs.Tests.{no_eq, yes-eq}
use Rattle.records.specs.Pack.{size, WholeBytes, pack}
use Rattle.records.specs.Slots.{whole, slot_bytes, array_out}
use Rattle.records.specs.Places.{places, inserted, removed}
use Rattle.records.specs.Numbered.{listed}
use Rattle.records.specs.Edits.{insert_at, remove_at, replace_at, on_part}
use Rattle.records.proofs.Pack.{length-pack}
use Rattle.records.proofs.Zeros.{free_array}
use Rattle.records.proofs.Numbered.{length-listed, listed-set}
use Rattle.records.proofs.Arrays.{replace-pieces, array-replace, places-insert, places-remove, places-replace}
use Rattle.rates.specs.declared.Contract.{Contract}
use Rattle.model.specs.declared.Row.{Row}
use Rattle.model.specs.OpenContracts.{Contracts, put_contract}
use Rattle.model.specs.Rules.{Rules}
use Rattle.model.specs.Ledger.{Ledger, fresh, ledger_with_rows}
use Rattle.layout.proofs.RoundTrips.{length-header, length-contracts}
use Rattle.layout.specs.Layout.{Layout, first_contract, first_row, ledger_length, header_bytes, contract_bytes, row_bytes, bytes_of}

-- the contracts by number, with k under the number c
listed-put : (n : ℕ) (cs : Contracts) (c : ℕ) (k : Contract) → listed n (put_contract cs c k) ≡ set (listed n cs) c (Some k)
unfolding put_contract
listed-put n cs c k =
    listed-set n cs (put_contract cs c k) c (λ d h. rw (no_eq d c h)) ∙ ap (λ (o : Option Contract). set (listed n cs) c o) (rw (yes-eq c c refl))

free-listed : {A : Type 0} (n : ℕ) → listed {A = Option A} n (λ i. None) ≡ replicate n None
free-listed zero = refl
free-listed {A} (suc n) = ap (λ (os : List (Option A)). None ∷ os) (free-listed n)

free-places : {A : Type 0} (n : ℕ) → places {A = A} n [] ≡ replicate n None
unfolding places
free-places n = ap (λ (m : ℕ). replicate m None) (sub-zero n)

module _ (R : Rules) (L : Layout) where
  -- the bytes before the rows
  front : Ledger → List ℕ
  front l = header_bytes R L l ++ contract_bytes R L l

  length_front : (l : Ledger) → length (front l) ≡ first_row R L
  unfolding front first_row
  length_front l = length-append (header_bytes R L l) (contract_bytes R L l) ∙ ap₂ (λ (m n : ℕ). m + n) (length-header R L l) (length-contracts R L l)

  front-rows : (l : Ledger) (xs : List Row) → bytes_of R L (ledger_with_rows l xs) ≡ front l ++ (array_out L.row (places row_count xs) ++ [])
  unfolding bytes_of front
  front-rows l xs =
      let rows : List ℕ = array_out L.row (places row_count xs) in
      sym (append_assoc (header_bytes R L l) (contract_bytes R L l) rows)
      ∙ ap (λ (b : List ℕ). (header_bytes R L l ++ contract_bytes R L l) ++ b) (sym (append-nil rows))

  -- ---- rows

  module _ (aligned : WholeBytes (whole L.row)) (l : Ledger) where
    -- the row x comes in before place i
    pub row-inserted : (x : Row) (i : ℕ) → i ≤ length l.rows → length l.rows < row_count
        → bytes_of R L (ledger_with_rows l (inserted i x l.rows))
        ≡ on_part (first_row R L) (first_row R L + suc (length l.rows) * size (whole L.row)) (insert_at (i * size (whole L.row)) (slot_bytes L.row (Some x))) (bytes_of R L l)
    row-inserted x i h m =
        front-rows l (inserted i x l.rows)
        ∙ sym (places-insert L.row aligned (front l) [] row_count (first_row R L) (length_front l) l.rows x i h m)
        ∙ ap (on_part (first_row R L) (first_row R L + suc (length l.rows) * size (whole L.row)) (insert_at (i * size (whole L.row)) (slot_bytes L.row (Some x))))
        (sym (front-rows l l.rows))

    -- the row at place i goes
    pub row-removed : (i : ℕ) → i < length l.rows → length l.rows ≤ row_count
        → bytes_of R L (ledger_with_rows l (removed i l.rows))
        ≡ on_part (first_row R L) (first_row R L + length l.rows * size (whole L.row)) (remove_at (i * size (whole L.row)) (size (whole L.row))) (bytes_of R L l)
    row-removed i h m =
        front-rows l (removed i l.rows)
        ∙ sym (places-remove L.row aligned (front l) [] row_count (first_row R L) (length_front l) l.rows i h m)
        ∙ ap (on_part (first_row R L) (first_row R L + length l.rows * size (whole L.row)) (remove_at (i * size (whole L.row)) (size (whole L.row))))
        (sym (front-rows l l.rows))

    -- the row x comes in the stead of that at place i
    pub row-replaced : (x : Row) (i : ℕ) → i < length l.rows → length l.rows ≤ row_count
        → bytes_of R L (ledger_with_rows l (set l.rows i x)) ≡ replace_at (first_row R L + i * size (whole L.row)) (slot_bytes L.row (Some x)) (bytes_of R L l)
    row-replaced x i h m =
        front-rows l (set l.rows i x)
        ∙ sym (places-replace L.row aligned (front l) [] row_count (first_row R L) (length_front l) l.rows x i h m)
        ∙ ap (replace_at (first_row R L + i * size (whole L.row)) (slot_bytes L.row (Some x))) (sym (front-rows l l.rows))

  -- ---- contracts and the header

  -- the contract k comes under the number c
  pub contract-put : (l : Ledger) (c : ℕ) (k : Contract) → c < R.contract_limit
      → bytes_of R L (record { territory = l.territory; contracts = put_contract l.contracts c k; rows = l.rows; claims = l.claims; pence = l.pence })
      ≡ replace_at (first_contract R L + c * size (whole L.contract)) (slot_bytes L.contract (Some k)) (bytes_of R L l)
  unfolding bytes_of
  contract-put l c k h =
      ap (λ (os : List (Option Contract)). header_bytes R L l ++ (array_out L.contract os ++ row_bytes R L l)) (listed-put R.contract_limit l.contracts c k)
      ∙ sym (array-replace L.contract (header_bytes R L l) (row_bytes R L l) (listed R.contract_limit l.contracts) (Some k) c (first_contract R L) (length-header R L l)
      (omega (arith, length-listed R.contract_limit l.contracts)))

  -- the header is written over another
  header-written : (vs old rest : List ℕ) → length old ≡ first_contract R L → pack L.header vs ++ rest ≡ replace_at 0 (pack L.header vs) (old ++ rest)
  unfolding first_contract
  header-written vs old rest h = sym (replace-pieces [] old rest (pack L.header vs) 0 refl (length-pack L.header vs ∙ sym h))

  -- the header's numbers change
  pub header-changed : (l : Ledger) (claims pence : ℕ)
      → bytes_of R L (record { territory = l.territory; contracts = l.contracts; rows = l.rows; claims = claims; pence = pence })
      ≡ replace_at 0 (pack L.header (l.territory ∷ claims ∷ pence ∷ [])) (bytes_of R L l)
  unfolding bytes_of
  header-changed l claims pence =
      header-written (l.territory ∷ claims ∷ pence ∷ []) (header_bytes R L l) (contract_bytes R L l ++ row_bytes R L l) (length-header R L l)

  -- ---- a fresh ledger

  module _ (contracts-aligned : WholeBytes (whole L.contract)) (rows-aligned : WholeBytes (whole L.row)) (t : ℕ) where
    -- zeros for the contracts and the rows
    free_bytes : contract_bytes R L (fresh t) ++ row_bytes R L (fresh t) ≡ replicate (R.contract_limit * size (whole L.contract) + row_count * size (whole L.row)) 0
    unfolding fresh
    free_bytes =
        ap₂ (λ (a b : List ℕ). a ++ b) (ap (array_out L.contract) (free-listed R.contract_limit) ∙ free_array L.contract contracts-aligned R.contract_limit)
        (ap (array_out L.row) (free-places row_count) ∙ free_array L.row rows-aligned row_count)
        ∙ replicate-append-replicate (R.contract_limit * size (whole L.contract)) (row_count * size (whole L.row)) 0

    -- its header, and zeros after it
    pub fresh-parts : bytes_of R L (fresh t) ≡ header_bytes R L (fresh t) ++ replicate (R.contract_limit * size (whole L.contract) + row_count * size (whole L.row)) 0
    unfolding bytes_of
    fresh-parts = ap (λ (b : List ℕ). header_bytes R L (fresh t) ++ b) free_bytes

    -- so it is its header over zeros
    pub fresh-bytes : bytes_of R L (fresh t) ≡ replace_at 0 (pack L.header (t ∷ 0 ∷ 0 ∷ [])) (replicate (ledger_length R L) 0)
    unfolding fresh ledger_length first_row
    fresh-bytes =
        let n : ℕ = R.contract_limit * size (whole L.contract) + row_count * size (whole L.row) in
        let sum : first_contract R L + n ≡ ledger_length R L = omega arith in
        fresh-parts
        ∙ header-written (t ∷ 0 ∷ 0 ∷ []) (replicate (first_contract R L) 0) (replicate n 0) (length-replicate (first_contract R L) 0)
        ∙ ap (replace_at 0 (header_bytes R L (fresh t))) (replicate-append-replicate (first_contract R L) n 0 ∙ ap (λ (k : ℕ). replicate k 0) sum)
