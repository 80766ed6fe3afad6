-- What is read and what is written: texts in pieces, numbers in decimal, commands and lines.
pub mod Bytes
pub mod Pieces
pub mod Numbers
pub mod Commands
pub mod Lines
pub mod LineExamples
