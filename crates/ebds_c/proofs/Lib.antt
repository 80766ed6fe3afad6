-- What C gets of an answer.
pub mod Given
