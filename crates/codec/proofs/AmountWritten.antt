-- A row's slot with its amount written: the slot of the row with that amount. Assumes nothing.
use Rattle.std.specs.Prelude.{Some}
use mathlib.Core.Path.{◌≡◌, refl, subst, ◌∙◌}
use mathlib.Core.List.{List}
use Prim.Native.Nat.{ℕ, ◌^◌, ◌<◌}
use native.Mathlib.Omega.{arith}
use lib.ListN.{length, take, get_or}
use Rattle.fields.specs.Field.{set_field}
use Rattle.fields.specs.Fields.{Fit, fields, sum}
use Rattle.fields.proofs.Laws.{fields_fit}
use Rattle.records.specs.Pack.{size, unpack}
use Rattle.records.specs.Slots.{whole, slot_out}
use Rattle.records.specs.OneSlot.{slot_numbers, record_in, record_bytes, IsPacked}
use Rattle.records.proofs.NumberSet.{number-set}
use Rattle.model.specs.declared.Row.{Row}
use Rattle.model.specs.Ledger.{with_amount}
use Rattle.layout.specs.PresentLayout.{row_record}

module _ (s : List ℕ) (a : ℕ) (low : a < 2 ^ 50) where
  abbrev x : Row
  x = record_in row_record s

  -- the amount is the last of the row's fields
  abbrev last : ℕ
  last = length row_record.widths

  fits : Fit (whole row_record) (slot_out row_record (Some x))
  unfolding slot_out record_in slot_numbers unpack fields
  fits = let f = fields_fit s (whole row_record) 0 in omega arith

  fits-then : Fit (whole row_record) (slot_out row_record (Some (with_amount x a)))
  unfolding slot_out record_in slot_numbers unpack fields
  fits-then = let f = fields_fit s (whole row_record) 0 in omega arith

  pub amount-written : (t : List ℕ) → IsPacked row_record s → t ≡ set_field s (sum (take last (whole row_record))) (get_or (whole row_record) last 0) a → t ≡ record_bytes row_record (with_amount x a)
  unfolding slot_out size
  amount-written t is e =
      e ∙ subst (λ (u : List ℕ). set_field u (sum (take last (whole row_record))) (get_or (whole row_record) last 0) a ≡ record_bytes row_record (with_amount x a)) is
      (number-set row_record refl x (with_amount x a) last a (omega arith) fits refl fits-then)
