-- Document 01, "Contracts and the price book", with paper 5's amendments: the numbers that stand for a fuel, a kind with its days, a certificate
-- and an amendment; the kinds that are fixed, those whose R is the WAP, and those whose prices are monthly. Assumes nothing.
use Rattle.std.specs.Prelude.{Bool, true, false, cond, ℕ, eqb, Option, Some, None}
use Rattle.rates.specs.declared.Fuel.{Fuel}
use Rattle.rates.specs.declared.Fuel.TheVariants.{Electricity, Gas}
use Rattle.rates.specs.declared.Kind.{Kind}
use Rattle.rates.specs.declared.Kind.TheVariants.{Fixed, Variable, Flexible, Index}
use Rattle.rates.specs.declared.Certificate.{Certificate}
use Rattle.rates.specs.declared.Certificate.TheVariants.{Etii, Qhs}
use Rattle.rates.specs.declared.Certificate.TheVariants as certificate
use Rattle.rates.specs.declared.Amendment.{Amendment}
use Rattle.rates.specs.declared.Contract.{Contract}

-- fuel: 0 electricity, 1 gas
abbrev pub fuel_of : ℕ → Fuel
fuel_of code = cond (eqb code 0) Electricity Gas

abbrev pub fuel_code : Fuel → ℕ
fuel_code Electricity = 0
fuel_code Gas = 1

-- kind: 0 fixed, with its price-fix day and its day of entry; 1 variable; 2 flexible; 3 day-ahead index
abbrev pub kind_of : (code price_fix_day_of entry_day_of : ℕ) → Kind
kind_of code fix entry = cond (eqb code 0) (Fixed fix entry) (cond (eqb code 1) Variable (cond (eqb code 2) Flexible Index))

abbrev pub kind_code : Kind → ℕ
kind_code (Fixed fix entry) = 0
kind_code Variable = 1
kind_code Flexible = 2
kind_code Index = 3

abbrev pub price_fix_day_of : Kind → ℕ
price_fix_day_of (Fixed fix entry) = fix
price_fix_day_of Variable = 0
price_fix_day_of Flexible = 0
price_fix_day_of Index = 0

abbrev pub entry_day_of : Kind → ℕ
entry_day_of (Fixed fix entry) = entry
entry_day_of Variable = 0
entry_day_of Flexible = 0
entry_day_of Index = 0

abbrev pub is_fixed : Kind → Bool
is_fixed (Fixed fix entry) = true
is_fixed Variable = false
is_fixed Flexible = false
is_fixed Index = false

abbrev pub is_flexible : Kind → Bool
is_flexible (Fixed fix entry) = false
is_flexible Variable = false
is_flexible Flexible = true
is_flexible Index = false

-- a kind whose prices are published by the month: variable and index
abbrev pub is_monthly : Kind → Bool
is_monthly (Fixed fix entry) = false
is_monthly Variable = true
is_monthly Flexible = false
is_monthly Index = true

-- class: 0 none, 1 ETII, 2 QHS
abbrev pub certificate_of : (class effective_day_of : ℕ) → Certificate
certificate_of class effective = cond (eqb class 1) (Etii effective) (cond (eqb class 2) (Qhs effective) certificate.None)

abbrev pub class_code : Certificate → ℕ
class_code certificate.None = 0
class_code (Etii effective) = 1
class_code (Qhs effective) = 2

abbrev pub effective_day_of : Certificate → ℕ
effective_day_of certificate.None = 0
effective_day_of (Etii effective) = effective
effective_day_of (Qhs effective) = effective

-- an amendment: a flag, 0 where there is none, and the three days, the original end, the price-fix day and the entry day
abbrev pub amendment_with : (original_end_day_of price_fix_day_of entry_day_of : ℕ) → Amendment
amendment_with end fix entry = record { original_end_day = end; price_fix_day = fix; entry_day = entry }

abbrev pub amendment_of : (flag original_end_day_of price_fix_day_of entry_day_of : ℕ) → Option Amendment
amendment_of flag end fix entry = cond (eqb flag 0) None (Some (amendment_with end fix entry))

abbrev pub amendment_flag_of : Option Amendment → ℕ
amendment_flag_of None = 0
amendment_flag_of (Some amendment) = 1

abbrev pub original_end_day_of : Option Amendment → ℕ
original_end_day_of None = 0
original_end_day_of (Some amendment) = amendment.original_end_day

abbrev pub amended_price_fix_day_of : Option Amendment → ℕ
amended_price_fix_day_of None = 0
amended_price_fix_day_of (Some amendment) = amendment.price_fix_day

abbrev pub amended_entry_day_of : Option Amendment → ℕ
amended_entry_day_of None = 0
amended_entry_day_of (Some amendment) = amendment.entry_day

abbrev pub is_amended : Option Amendment → Bool
is_amended None = false
is_amended (Some amendment) = true

-- a contract that is opened: its fuel, kind and days, without a certificate and unamended
unfoldable pub opening : (fuel kind price_fix_day_of entry_day_of : ℕ) → Contract
opening fuel kind fix entry = record { fuel = fuel_of fuel; kind = kind_of kind fix entry; certificate = certificate.None; amendment = None }

-- a contract with another certificate in place of its own; class 0 leaves none
unfoldable pub certify : Contract → (class effective_day_of : ℕ) → Contract
certify k class effective = record { fuel = k.fuel; kind = k.kind; certificate = certificate_of class effective; amendment = k.amendment }

-- a contract with an amendment: "an accepted amend adds the three days to its contract"
unfoldable pub amend : Contract → (original_end_day_of price_fix_day_of entry_day_of : ℕ) → Contract
amend k end fix entry = record { fuel = k.fuel; kind = k.kind; certificate = k.certificate; amendment = Some (amendment_with end fix entry) }
