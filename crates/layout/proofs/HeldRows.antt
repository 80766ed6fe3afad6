-- The rows of a well-formed ledger, read off their slots. Assumes nothing.
use Rattle.std.specs.Prelude.{Option, None, Some}
use mathlib.Core.Path.{◌≡◌, sym, ap, ◌∙◌}
use mathlib.Core.Bool.{Bool, true, false, cond}
use mathlib.Core.List.{List}
use Prim.Native.Nat.{ℕ, ◌≤◌, ◌<◌}
use native.Mathlib.Omega.{arith}
use lib.Dec.{eqb}
use lib.ListN.{length, get_or}
use Rattle.limits.specs.Limits.{row_count}
use Rattle.records.specs.Slots.{slot_in}
use Rattle.records.specs.Places.{places}
use Rattle.records.proofs.OneSlot.{slot-holds}
use Rattle.records.proofs.Scan.{record_of}
use Rattle.records.proofs.Places.{place-held, places-held}
use Rattle.model.specs.declared.Row.{Row}
use Rattle.model.specs.Rules.{Rules}
use Rattle.layout.specs.Layout.{Layout, first_row, ledger_length, row_slots, comes_before, is_well_formed, ledger_of}
use Rattle.layout.specs.Check.{row_slot_at, row_at}
use Rattle.layout.proofs.LayoutLaws.{Tested, tested}
use Rattle.layout.proofs.Lawful.{Lawful}
use Rattle.layout.proofs.RoundTrips.{length-row_slots, unpacked-well-formed}
use Rattle.layout.proofs.Access.{row-whole, rows_inside}

module _ {R : Rules} {L : Layout} (laws : Lawful R L) (b : List ℕ) (f : is_well_formed R L b ≡ true) where
  abbrev rows : List Row
  rows = (ledger_of R L b).rows

  tests : Tested R L b
  tests = tested R L b f

  pub formed-length : length b ≡ ledger_length R L
  formed-length = tests.long

  pub rows-most : length rows ≤ row_count
  rows-most = (unpacked-well-formed laws b tests).count

  slot_held : (i : ℕ) → i < row_count → get_or (row_slots R L b) i None ≡ slot_in L.row (row_slot_at R L b i)
  unfolding row_slots
  slot_held i h = slot-holds L.row (row-whole laws) row_count (first_row R L) b (rows_inside laws b formed-length) i h

  -- held rows come first
  pub rows-first : row_slots R L b ≡ places row_count rows
  unfolding ledger_of
  rows-first = sym (ap (λ (n : ℕ). places n rows) (sym (length-row_slots R L b)) ∙ places-held comes_before (row_slots R L b) tests.order)

  pub row-held : (i : ℕ) (d : Row) → i < length rows → row_at R L b i ≡ get_or rows i d
  unfolding ledger_of slot_in row_at
  row-held i d h =
      let m : i < row_count = omega (arith, rows-most) in
      let s : slot_in L.row (row_slot_at R L b i) ≡ Some (get_or rows i d) =
      sym (slot_held i m) ∙ ap (λ (os : List (Option Row)). get_or os i None) rows-first ∙ place-held row_count rows d i h in
      go (eqb (get_or (row_slot_at R L b i) 0 0) 0) s
    where
      go : (z : Bool) → cond z None (Some (record_of L.row (row_slot_at R L b i))) ≡ Some (get_or rows i d) → record_of L.row (row_slot_at R L b i) ≡ get_or rows i d
      go true s = let n : ◌≡◌ {A = ℕ} 0 1 = cc in let y : ⊥ = omega arith in absurd y
      go false s = cc
