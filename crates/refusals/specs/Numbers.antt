-- Documents 01 and 02, "Turned down": the number of each refusal. The statements speak of refusals by these numbers. Assumes nothing.
use Rattle.std.specs.Prelude.{ℕ, Result, Ok, Err}
use Rattle.refusals.specs.declared.Refusal.{Refusal}
use Rattle.refusals.specs.declared.Refusal.TheVariants.{Unreadable, NotWellFormed, BadBook, BadContractNumber, ContractState, BadCode, BadDay, BadAmount, NoSuchRow, SharedDay, NoPrice, RowsFull, ClaimsSpent, BadShares, TwoMonths, NotAmendable, CrossesEnd, RowAfterEnd}

abbrev pub number_of : Refusal → ℕ
number_of Unreadable = 1
number_of NotWellFormed = 2
number_of BadBook = 3
number_of BadContractNumber = 4
number_of ContractState = 5
number_of BadCode = 6
number_of BadDay = 7
number_of BadAmount = 8
number_of NoSuchRow = 9
number_of SharedDay = 10
number_of NoPrice = 11
number_of RowsFull = 12
number_of ClaimsSpent = 13
number_of BadShares = 14
number_of TwoMonths = 15
number_of NotAmendable = 16
number_of CrossesEnd = 17
number_of RowAfterEnd = 18

-- the number of a refusal in what a function gives, 0 where it gives none
abbrev pub refusal_in : {A : Type 0} → Result A Refusal → ℕ
refusal_in (Ok a) = 0
refusal_in (Err r) = number_of r

-- what a function gives, with the number in place of its refusal
abbrev pub by_number : {A : Type 0} → Result A Refusal → Result A ℕ
by_number (Ok a) = Ok a
by_number (Err r) = Err (number_of r)

-- the number in that, 0 where there is none
abbrev pub number_in : {A : Type 0} → Result A ℕ → ℕ
number_in (Ok a) = 0
number_in (Err n) = n
