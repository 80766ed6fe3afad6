-- Document 01, "Well formed", with paper 1's shares, paper 2's rows across months, paper 5's amendments and paper 6's larger rows: held rows
-- and open contracts on either side of the ranges. Assumes nothing.
use Rattle.std.specs.Prelude.{◌≡◌, Bool, true, false, List, [], ◌∷◌, ◌++◌, map, ℕ, ◌+◌, ◌≤◌, Option, Some, None}
use Rattle.limits.specs.Limits.{most_kwh_stored}
use Rattle.rates.specs.declared.Fuel.TheVariants.{Electricity}
use Rattle.rates.specs.declared.Kind.{Kind}
use Rattle.rates.specs.declared.Kind.TheVariants.{Fixed, Variable, Flexible, Index}
use Rattle.rates.specs.declared.Certificate.TheVariants as certificate
use Rattle.rates.specs.declared.Amendment.{Amendment}
use Rattle.rates.specs.declared.Contract.{Contract}
use Rattle.rates.specs.TermsTaken.{crosses_end}
use Rattle.amounts.specs.declared.Bill.{Bill}
use Rattle.model.specs.PresentRules.{contract_ranges, bill_ok}

-- a held row of a contract of that kind and with that amendment, and whether it keeps the ranges
pub record HeldBill : Type 0 where
  pub kind : Kind
  pub amendment : Option Amendment
  pub first : ℕ
  pub last : ℕ
  pub kwh : ℕ
  pub etii : ℕ
  pub qhs : ℕ
  pub reference : ℕ
  pub supply : ℕ
  pub kept : Bool

abbrev pub held_bill : Kind → (first last kwh etii qhs reference supply : ℕ) → Bool → HeldBill
held_bill kind first last kwh etii qhs reference supply kept =
    record { kind = kind; amendment = None; first = first; last = last; kwh = kwh; etii = etii; qhs = qhs; reference = reference; supply = supply; kept = kept }

-- a held row of a fixed contract that is amended with that original end
abbrev pub amended_bill : (original_end_day_of first last : ℕ) → Bool → HeldBill
amended_bill end first last kept =
    record { kind = Fixed 0 0; amendment = Some (record { original_end_day = end; price_fix_day = 0; entry_day = 0 }); first = first; last = last; kwh = 1; etii = 0; qhs = 0; reference = 1; supply = 1; kept = kept }

-- "486 ≤ first ≤ last ≤ 851", R and S at most 999,999, "R 0 only for flexible"; of paper 1, "A
-- well-formed row's shares don't exceed its kWh"; of paper 2, rows of variable and index contracts across two months, a quarter and all of
-- the scheme "remain well formed"; of paper 5, "no row of an amended contract crosses its original end"; of paper 6, "A stored row up to
-- 100,000,000 is still well formed", without shares and with them
unfoldable pub held_bills : List HeldBill
held_bills =
    held_bill (Fixed 0 0) 486 851 100000000 0 0 999999 999999 true
    ∷ held_bill (Fixed 0 0) 485 851 100000000 0 0 999999 999999 false
    ∷ held_bill (Fixed 0 0) 486 852 100000000 0 0 999999 999999 false
    ∷ held_bill (Fixed 0 0) 500 499 100000000 0 0 999999 999999 false
    ∷ held_bill (Fixed 0 0) 486 851 100000001 0 0 999999 999999 false
    ∷ held_bill (Fixed 0 0) 486 851 100000000 0 0 1000000 999999 false
    ∷ held_bill (Fixed 0 0) 486 851 100000000 0 0 999999 1000000 false
    ∷ held_bill (Fixed 0 0) 486 851 40000001 0 0 1 1 true
    ∷ held_bill Flexible 486 851 100000000 100000000 0 0 0 true
    ∷ held_bill Flexible 486 851 100000000 0 100000000 0 0 true
    ∷ held_bill Flexible 486 851 100000001 60000000 40000000 0 0 false
    ∷ held_bill (Fixed 0 0) 486 851 0 0 0 0 0 false
    ∷ held_bill Flexible 486 851 0 0 0 0 0 true
    ∷ held_bill Flexible 486 851 100 100 0 0 0 true
    ∷ held_bill Flexible 486 851 100 0 100 0 0 true
    ∷ held_bill Flexible 486 851 100 60 40 0 0 true
    ∷ held_bill Flexible 486 851 100 101 0 0 0 false
    ∷ held_bill Flexible 486 851 100 0 101 0 0 false
    ∷ held_bill Flexible 486 851 100 60 41 0 0 false
    ∷ held_bill Flexible 486 851 100 0 134217727 0 0 false
    ∷ held_bill Variable 515 516 1 0 0 1 1 true
    ∷ held_bill Variable 486 576 1 0 0 1 1 true
    ∷ held_bill Variable 486 851 1 0 0 1 1 true
    ∷ held_bill Index 515 516 1 0 0 1 1 true
    ∷ held_bill Index 486 576 1 0 0 1 1 true
    ∷ held_bill Index 486 851 1 0 0 1 1 true
    ∷ amended_bill 600 590 600 true
    ∷ amended_bill 600 600 600 true
    ∷ amended_bill 600 601 601 true
    ∷ amended_bill 600 601 851 true
    ∷ amended_bill 600 600 601 false
    ∷ amended_bill 600 486 851 false
    ∷ amended_bill 486 486 487 false
    ∷ amended_bill 486 487 851 true
    ∷ amended_bill 850 850 851 false
    ∷ amended_bill 851 486 851 true
    ∷ []

unfoldable pub keeps_ranges : HeldBill → Bool
keeps_ranges e = bill_ok
    (record { fuel = Electricity; kind = e.kind; certificate = certificate.None; amendment = e.amendment })
    (record { contract = 0; first = e.first; last = e.last; kwh = e.kwh; etii = e.etii; qhs = e.qhs; reference = e.reference; supply = e.supply })

-- the numbers of an open contract of Great Britain: fuel, kind, price-fix day, entry day, class, effective day, with those of its amendment
abbrev pub unamended : List ℕ → List ℕ
unamended numbers = numbers ++ (0 ∷ 0 ∷ 0 ∷ 0 ∷ [])

abbrev pub amended_fixed : (flag original_end_day_of price_fix_day_of entry_day_of : ℕ) → List ℕ
amended_fixed flag end fix entry = 0 ∷ 0 ∷ 851 ∷ 851 ∷ 0 ∷ 0 ∷ flag ∷ end ∷ fix ∷ entry ∷ []

unfoldable pub contracts_in_range : List (List ℕ)
contracts_in_range = amended_fixed 1 486 0 0 ∷ amended_fixed 1 851 851 851 ∷ amended_fixed 1 486 851 0 ∷ amended_fixed 1 486 0 851 ∷ map unamended (
    (1 ∷ 0 ∷ 851 ∷ 851 ∷ 0 ∷ 0 ∷ [])
    ∷ (0 ∷ 1 ∷ 0 ∷ 0 ∷ 1 ∷ 486 ∷ [])
    ∷ (0 ∷ 2 ∷ 0 ∷ 0 ∷ 2 ∷ 511 ∷ [])
    ∷ (0 ∷ 2 ∷ 0 ∷ 0 ∷ 1 ∷ 851 ∷ [])
    ∷ [])

-- a flag that is neither 0 nor 1; set with a day out of range, or on a contract that isn't fixed; clear with a day that isn't 0
unfoldable pub amendments_out_of_range : List (List ℕ)
amendments_out_of_range =
    amended_fixed 2 486 0 0
    ∷ amended_fixed 1 485 0 0
    ∷ amended_fixed 1 852 0 0
    ∷ amended_fixed 1 0 0 0
    ∷ amended_fixed 1 486 852 0
    ∷ amended_fixed 1 486 0 852
    ∷ (0 ∷ 1 ∷ 0 ∷ 0 ∷ 0 ∷ 0 ∷ 1 ∷ 486 ∷ 0 ∷ 0 ∷ [])
    ∷ (0 ∷ 2 ∷ 0 ∷ 0 ∷ 0 ∷ 0 ∷ 1 ∷ 486 ∷ 0 ∷ 0 ∷ [])
    ∷ amended_fixed 0 486 0 0
    ∷ amended_fixed 0 0 1 0
    ∷ amended_fixed 0 0 0 1
    ∷ []

unfoldable pub contracts_out_of_range : List (List ℕ)
contracts_out_of_range = amendments_out_of_range ++ map unamended (
    (0 ∷ 3 ∷ 0 ∷ 0 ∷ 0 ∷ 0 ∷ [])
    ∷ (0 ∷ 0 ∷ 852 ∷ 0 ∷ 0 ∷ 0 ∷ [])
    ∷ (0 ∷ 0 ∷ 0 ∷ 852 ∷ 0 ∷ 0 ∷ [])
    ∷ (0 ∷ 1 ∷ 1 ∷ 0 ∷ 0 ∷ 0 ∷ [])
    ∷ (0 ∷ 1 ∷ 0 ∷ 1 ∷ 0 ∷ 0 ∷ [])
    ∷ (0 ∷ 1 ∷ 0 ∷ 0 ∷ 3 ∷ 511 ∷ [])
    ∷ (0 ∷ 1 ∷ 0 ∷ 0 ∷ 0 ∷ 1 ∷ [])
    ∷ (0 ∷ 1 ∷ 0 ∷ 0 ∷ 1 ∷ 485 ∷ [])
    ∷ (0 ∷ 1 ∷ 0 ∷ 0 ∷ 1 ∷ 852 ∷ [])
    ∷ (0 ∷ 1 ∷ 0 ∷ 0 ∷ 2 ∷ 510 ∷ [])
    ∷ [])

-- the bill with another last day
abbrev pub ending_on : (last : ℕ) → Bill → Bill
ending_on last b = record { contract = b.contract; first = b.first; last = last; kwh = b.kwh; etii = b.etii; qhs = b.qhs; reference = b.reference; supply = b.supply }

-- the bill with other kWh and shares
abbrev pub with_kwh : (kwh etii qhs : ℕ) → Bill → Bill
with_kwh kwh etii qhs b = record { contract = b.contract; first = b.first; last = b.last; kwh = kwh; etii = etii; qhs = qhs; reference = b.reference; supply = b.supply }

pub record RangesKept : Type 0 where
  pub bills : map keeps_ranges held_bills ≡ map (λ e. e.kept) held_bills
  -- a row that keeps the ranges has at most 100,000,000 kWh, and keeps them with any kWh up to that and any shares that don't exceed it
  pub most_kwh : (k : Contract) (b : Bill) → bill_ok k b ≡ true → b.kwh ≤ most_kwh_stored
  pub any_kwh : (k : Contract) (b : Bill) → bill_ok k b ≡ true → (kwh etii qhs : ℕ) → etii + qhs ≤ kwh → kwh ≤ most_kwh_stored → bill_ok k (with_kwh kwh etii qhs b) ≡ true
  -- a row that keeps the ranges keeps them with any last day of the scheme that isn't across an original end, whatever months it then touches
  pub any_last_day : (k : Contract) (b : Bill) → bill_ok k b ≡ true → (last : ℕ) → b.first ≤ last → last ≤ 851 → crosses_end k.amendment b.first last ≡ false → bill_ok k (ending_on last b) ≡ true
  pub in_range : map (contract_ranges 0) contracts_in_range ≡ map (λ _. true) contracts_in_range
  pub out_of_range : map (contract_ranges 0) contracts_out_of_range ≡ map (λ _. false) contracts_out_of_range
  pub index_in_northern_ireland : contract_ranges 1 (unamended (0 ∷ 3 ∷ 0 ∷ 0 ∷ 0 ∷ 0 ∷ [])) ≡ true
  pub amended_index : contract_ranges 1 (0 ∷ 3 ∷ 0 ∷ 0 ∷ 0 ∷ 0 ∷ 1 ∷ 486 ∷ 0 ∷ 0 ∷ []) ≡ false
  pub gas_index : contract_ranges 1 (unamended (1 ∷ 3 ∷ 0 ∷ 0 ∷ 0 ∷ 0 ∷ [])) ≡ false
