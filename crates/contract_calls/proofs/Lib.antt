-- What the calls answer, and what the bytes that they write hold.
pub mod StartAnswers
pub mod RowsInSlots
pub mod RowRerating
pub mod RowsRerating
pub mod ContractAnswers
