-- What is established, in one record.
pub mod Established
