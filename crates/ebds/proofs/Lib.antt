-- Laws of what the program reads and prints.
pub mod Runs
