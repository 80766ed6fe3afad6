-- The packed ledger in force: bytes that hold facts, edited as the functions of this crate and `codec::header::write_header` edit them,
-- hold the changed facts. Assumes nothing.
use Rattle.std.specs.Prelude.{Some}
use mathlib.Core.Path.{◌≡◌, refl, sym, ap, ap₂, ◌∙◌}
use mathlib.Core.List.{List, [], ◌∷◌}
use Prim.Native.Nat.{ℕ, suc, ◌+◌, ◌*◌, ◌≤◌, ◌<◌}
use native.Mathlib.Omega.{arith}
use lib.ListN.{length, set, replicate}
use Rattle.limits.specs.Limits.{contract_count, row_count}
use Rattle.records.specs.Pack.{size, pack}
use Rattle.records.specs.Slots.{slot_out, whole}
use Rattle.records.specs.Places.{inserted, removed}
use Rattle.records.specs.Edits.{insert_at, remove_at, replace_at, on_part}
use Rattle.records.proofs.Pack.{length-pack}
use Rattle.rates.specs.declared.Contract.{Contract}
use Rattle.model.specs.declared.Row.{Row}
use Rattle.model.specs.OpenContracts.{put_contract}
use Rattle.model.specs.Ledger.{Ledger, fresh, ledger_with_rows}
use Rattle.layout.specs.PresentLayout.{contract_record, row_record}
use Rattle.layout.proofs.Lawful.{offsets}
use Rattle.layout.specs.Offsets.{ledger_length, first_contract, contract_length, first_row, row_start, row_length}
use Rattle.layout.proofs.Changes.{row-inserted, row-removed, row-replaced, contract-put, header-changed, fresh-bytes}
use Rattle.records.specs.OneSlot.{record_bytes}
use Rattle.layout.specs.Present.{rules, layout, bytes}

pub length-row : (x : Row) → length (record_bytes row_record x) ≡ row_length
unfolding record_bytes size
length-row x = length-pack (whole row_record) (slot_out row_record (Some x))

module _ (l : Ledger) (b d : List ℕ) (held : b ≡ bytes l) where
  -- after `insert_row`
  pub inserted-row : (rows i : ℕ) (row : Row) → length l.rows ≡ rows → i ≤ rows → rows < row_count
      → d ≡ on_part first_row (row_start (rows + 1)) (insert_at (i * row_length) (record_bytes row_record row)) b
      → d ≡ bytes (ledger_with_rows l (inserted i row l.rows))
  unfolding record_bytes offsets
  inserted-row rows i row n h m e =
      let end : rows + 1 ≡ suc (length l.rows) = omega arith in
      e ∙ ap₂ (λ (k : ℕ) (x : List ℕ). on_part first_row (row_start k) (insert_at (i * row_length) (record_bytes row_record row)) x) end held
      ∙ sym (row-inserted rules layout refl l row i (omega arith) (omega arith))

  -- after `remove_row`
  pub removed-row : (rows i : ℕ) → length l.rows ≡ rows → i < rows → rows ≤ row_count
      → d ≡ on_part first_row (row_start rows) (remove_at (i * row_length) row_length) b
      → d ≡ bytes (ledger_with_rows l (removed i l.rows))
  unfolding offsets
  removed-row rows i n h m e =
      e ∙ ap₂ (λ (k : ℕ) (x : List ℕ). on_part first_row (row_start k) (remove_at (i * row_length) row_length) x) (sym n) held
      ∙ sym (row-removed rules layout refl l i (omega arith) (omega arith))

  -- after `replace_row`
  pub replaced-row : (i : ℕ) (row : Row) → i < length l.rows → length l.rows ≤ row_count
      → d ≡ replace_at (row_start i) (record_bytes row_record row) b
      → d ≡ bytes (ledger_with_rows l (set l.rows i row))
  unfolding record_bytes offsets
  replaced-row i row h m e =
      e ∙ ap (replace_at (row_start i) (record_bytes row_record row)) held ∙ sym (row-replaced rules layout refl l row i h m)

  -- after `write_contract`
  pub written-contract : (c : ℕ) (k : Contract) → c < contract_count
      → d ≡ replace_at (first_contract + c * contract_length) (record_bytes contract_record k) b
      → d ≡ bytes (record { territory = l.territory; contracts = put_contract l.contracts c k; rows = l.rows; claims = l.claims; pence = l.pence })
  unfolding record_bytes offsets
  written-contract c k h e =
      e ∙ ap (replace_at (first_contract + c * contract_length) (record_bytes contract_record k)) held ∙ sym (contract-put rules layout l c k h)

  -- after `write_header`
  pub written-header : (claims pence : ℕ) → d ≡ replace_at 0 (pack layout.header (l.territory ∷ claims ∷ pence ∷ [])) b
      → d ≡ bytes (record { territory = l.territory; contracts = l.contracts; rows = l.rows; claims = claims; pence = pence })
  written-header claims pence e =
      e ∙ ap (replace_at 0 (pack layout.header (l.territory ∷ claims ∷ pence ∷ []))) held ∙ sym (header-changed rules layout l claims pence)

-- a fresh ledger's header over zeros
pub fresh_ledger : (t : ℕ) → bytes (fresh t) ≡ replace_at 0 (pack layout.header (t ∷ 0 ∷ 0 ∷ [])) (replicate ledger_length 0)
unfolding offsets
fresh_ledger t = fresh-bytes rules layout refl refl t
