-- What the program owes of its input and output.
pub mod Run
