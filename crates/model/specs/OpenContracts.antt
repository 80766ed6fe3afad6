-- The open contracts, by number. Assumes nothing.
use Rattle.std.specs.Prelude.{Bool, true, false, cond, ℕ, eqb, Option, Some, None}
use Rattle.rates.specs.declared.Fuel.TheVariants.{Electricity}
use Rattle.rates.specs.declared.Kind.TheVariants.{Variable}
use Rattle.rates.specs.declared.Certificate.TheVariants as certificate
use Rattle.rates.specs.declared.Contract.{Contract}
use Rattle.amounts.specs.declared.Bill.{Bill}

-- none where the number isn't open
abbrev pub Contracts : Type 0
Contracts = ℕ → Option Contract

abbrev pub no_contracts : Contracts
no_contracts c = None

-- the contract with that number; one that no call reads where it isn't open
abbrev pub contract_in : Option Contract → Contract
contract_in None = record { fuel = Electricity; kind = Variable; certificate = certificate.None; amendment = None }
contract_in (Some k) = k

unfoldable pub contract_at : Contracts → ℕ → Contract
contract_at cs c = contract_in (cs c)

-- a bill's contract, as the contracts then stand
abbrev pub contract_of : Contracts → Bill → Contract
contract_of cs b = contract_at cs b.contract

abbrev pub is_there : Option Contract → Bool
is_there None = false
is_there (Some k) = true

unfoldable pub is_open : Contracts → ℕ → Bool
is_open cs c = is_there (cs c)

-- the contracts with k under the number c
unfoldable pub put_contract : Contracts → ℕ → Contract → Contracts
put_contract cs c k d = cond (eqb d c) (Some k) (cs d)
