-- What reading standard input owes.
pub mod Reading
