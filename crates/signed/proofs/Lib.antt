-- Laws of signed differences.
pub mod SignedDifferences
