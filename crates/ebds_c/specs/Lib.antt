-- The answers that C gets.
pub mod Answers
