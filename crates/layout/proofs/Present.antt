-- The rules and the layout in force keep their laws, and what follows of a well-formed ledger and of the machine. Assumes nothing.
use mathlib.Core.Path.{◌≡◌, refl, ◌∙◌}
use mathlib.Core.List.{List}
use Prim.Native.Nat.{ℕ}
use lib.ListN.{length}
use Rattle.records.specs.OneSlot.{slot_at, record_in}
use Rattle.model.specs.WellFormed.{WellFormed}
use Rattle.model.specs.History.{ledger_machine}
use Rattle.model.specs.Format.{FormatLaws}
use Rattle.model.proofs.PresentRules.{present-rules-laws}
use Rattle.model.proofs.Refinement.{Refines}
use Rattle.model.proofs.BytesBalance.{bytes-refine}
use Rattle.layout.specs.Layout.{format}
use Rattle.layout.specs.Offsets.{ledger_length, row_part}
use Rattle.layout.specs.PresentLayout.{row_record}
use Rattle.layout.specs.Present.{rules, layout, Formed, facts, bytes, row_at, machine}
use Rattle.layout.proofs.Lawful.{Lawful, offsets}
use Rattle.layout.proofs.HeldRows as HeldRows
use Rattle.layout.proofs.RoundTrips as RoundTrips
use Rattle.layout.proofs.PresentLayout.{packed-offsets, present-layout-laws}

pub present : Lawful rules layout
present = record { rules = present-rules-laws; layout = present-layout-laws }

pub format-laws : FormatLaws rules (format rules layout)
format-laws = RoundTrips.format-laws present

pub machine-refines : Refines machine (ledger_machine rules)
machine-refines = bytes-refine rules present.rules (format rules layout) format-laws

-- the row of slot i is what the slot's bytes hold
pub row-in-slot : (b : List ℕ) (i : ℕ) → row_at b i ≡ record_in row_record (row_part b i)
unfolding Rattle.layout.specs.Check.row_at slot_at offsets record_in
row-in-slot b i = refl

-- of a well-formed ledger: its length, that its facts are well formed, and that they are its bytes when packed
module _ (b : List ℕ) (f : Formed b) where
  pub formed-length : length b ≡ ledger_length
  formed-length = HeldRows.formed-length present b f ∙ packed-offsets.1.1

  pub facts-kept : WellFormed rules (facts b)
  facts-kept = format-laws.unpacked b f

  pub repacked : bytes (facts b) ≡ b
  repacked = RoundTrips.repacked present b f
