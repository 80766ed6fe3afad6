-- The number of every refusal is above 0, which stands for none. Assumes nothing.
use Prim.Native.Nat.{◌≤◌}
use native.Mathlib.Omega.{arith}
use Rattle.refusals.specs.declared.Refusal.{Refusal}
use Rattle.refusals.specs.declared.Refusal.TheVariants.{Unreadable, NotWellFormed, BadBook, BadContractNumber, ContractState, BadCode, BadDay, BadAmount, NoSuchRow, SharedDay, NoPrice, RowsFull, ClaimsSpent, BadShares, TwoMonths, NotAmendable, CrossesEnd, RowAfterEnd}
use Rattle.refusals.specs.Numbers.{number_of}

pub some_number : (r : Refusal) → 1 ≤ number_of r
some_number Unreadable = omega arith
some_number NotWellFormed = omega arith
some_number BadBook = omega arith
some_number BadContractNumber = omega arith
some_number ContractState = omega arith
some_number BadCode = omega arith
some_number BadDay = omega arith
some_number BadAmount = omega arith
some_number NoSuchRow = omega arith
some_number SharedDay = omega arith
some_number NoPrice = omega arith
some_number RowsFull = omega arith
some_number ClaimsSpent = omega arith
some_number BadShares = omega arith
some_number TwoMonths = omega arith
some_number NotAmendable = omega arith
some_number CrossesEnd = omega arith
some_number RowAfterEnd = omega arith
