-- What the proofs of this crate share.
pub mod RowChanges
pub mod Bills
