-- A row under its contract, and what a call owes.
pub mod Rows
pub mod Answered
