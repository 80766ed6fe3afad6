-- The limits of document 01.
pub mod Limits
