-- What is needed to change the rows of a packed ledger.
pub mod RowEdits
