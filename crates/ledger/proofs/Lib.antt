-- What the functions' proofs share: the widths of a row's numbers, its slot and its contract, searches of the rows, sums over them, and what
-- a call answers.
pub mod RowNumbers
pub mod RowTests
pub mod ContractSlots
pub mod EachRow
pub mod Search
pub mod ContractRows
pub mod Refusals
