-- The layout in force keeps the laws of a layout. Assumes nothing.
use mathlib.Core.Path.{◌≡◌, refl, ◌∙◌}
use mathlib.Core.Bool.{true}
use Prim.Native.Nat.{ℕ, ◌≤◌}
use native.Mathlib.Omega.{arith}
use lib.ListN.{length}
use Rattle.basics.proofs.Tests.{lt_no}
use Rattle.fields.specs.Fields.{Fit}
use Rattle.records.specs.Pack.{size}
use Rattle.records.specs.Slots.{RecordLaws}
use Rattle.rates.specs.declared.Contract.{Contract}
use Rattle.rates.specs.TermsTaken.{terms_for}
use Rattle.amounts.proofs.AmountBounds.{amount-bits}
use Rattle.model.specs.declared.Row.{Row}
use Rattle.model.specs.Codes.{class_code}
use Rattle.model.specs.OpenContracts.{Contracts, contract_of}
use Rattle.model.specs.Rules.{part_of_due}
use Rattle.model.specs.PresentRules.{contract_ok, contract_ranges}
use Rattle.model.specs.WellFormed.{RowOk}
use Rattle.model.proofs.Codes.{fuel-of-code, kind-of-code, certificate-of-code, amendment-of-numbers}
use Rattle.model.proofs.AcceptedBill.{span-days, kind-low, days-low, effective-low, amendment-low}
use Rattle.model.proofs.PresentRules.{contract-ranges, contract-numbers, bill-ranges}
use Rattle.layout.specs.Layout.{row_test}
use Rattle.layout.specs.Layout as Layout
use Rattle.layout.specs.PresentLayout.{contract_record, row_record}
use Rattle.layout.proofs.Lawful.{offsets}
use Rattle.layout.specs.Offsets.{first_contract, first_row, ledger_length}
use Rattle.layout.specs.Present.{rules, layout}
use Rattle.layout.proofs.LayoutLaws.{LayoutLaws, row-facts}
use Rattle.layout.proofs.RoundTrips.{listed-elements}

-- the parts begin and end by the layout
pub packed-offsets : (Layout.first_contract rules layout ≡ first_contract) × ((Layout.first_row rules layout ≡ first_row) × (Layout.ledger_length rules layout ≡ ledger_length))
unfolding offsets
packed-offsets = (refl, (refl, refl))

-- ---- contracts

pub contract-fits : (t : ℕ) (k : Contract) → contract_ok t k ≡ true → Fit contract_record.widths (contract_record.values k)
unfolding contract_ok
contract-fits t k e =
    let r = contract-ranges t (contract_record.values k) e in
    let low = kind-low t _ _ r.kind in
    let days = days-low _ _ _ r.days in
    let class : class_code k.certificate ≤ 2 = lt_no 2 _ r.class in
    let effective = effective-low _ _ r.effective in
    let amendment = amendment-low _ _ _ _ _ r.amendment in
    omega (arith, amendment.0, amendment.1.0, amendment.1.1.0, amendment.1.1.1)

contract-laws : (t : ℕ) → RecordLaws contract_record (contract_ranges t)
unfolding size contract_ok
contract-laws t = record {
  aligned = refl;
  of_values = λ k e. rw (fuel-of-code k.fuel, kind-of-code k.kind, certificate-of-code k.certificate, amendment-of-numbers k.amendment);
  values_of = λ v l e. contract-numbers t v e ∙ listed-elements (length contract_record.widths) v l;
  fits = contract-fits t;
}

-- ---- rows

pub row_fits : (cs : Contracts) (x : Row) → RowOk rules cs x → Fit row_record.widths (row_record.values x)
unfolding part_of_due
row_fits cs x o =
    let k = contract_of cs x.bill in
    let r = bill-ranges k x.bill o.ranges in
    let days = span-days _ _ r.span in
    omega (arith, o.number, o.part, r.rateable.kwh, r.rateable.shares, r.rateable.supply, amount-bits (terms_for k x.bill.first) x.bill r.rateable)

row_laws : (cs : Contracts) → RecordLaws row_record (row_test rules layout cs)
unfolding size
row_laws cs = record {
  aligned = refl;
  of_values = λ x e. refl;
  values_of = λ v l e. listed-elements (length row_record.widths) v l;
  fits = λ x e. row_fits cs x (row-facts rules cs x e);
}

-- ---- the layout

pub present-layout-laws : LayoutLaws rules layout
unfolding size contract_ok
present-layout-laws = record {
  aligned = refl;
  three = refl;
  fits = λ t c p h i j. omega arith;
  narrow = λ t c p f. omega arith;
  contract = contract-laws;
  ranges = λ t k. refl;
  row = row_laws;
  row-values = λ cs x o. refl;
}
