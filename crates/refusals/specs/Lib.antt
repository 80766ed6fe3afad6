-- The papers' numbers of the refusals.
pub mod Numbers
