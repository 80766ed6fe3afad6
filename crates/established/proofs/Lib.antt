-- The value of that record.
pub mod Established
