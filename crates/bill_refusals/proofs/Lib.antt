-- What the proofs of this crate and its callers share.
pub mod Requests
