-- A bill's row among the held rows.
pub mod Rows
