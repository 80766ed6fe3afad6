-- What start answers and leaves, and what re-rating finds and leaves of rows.
pub mod Start
pub mod Rerating
