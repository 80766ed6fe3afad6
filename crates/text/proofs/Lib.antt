-- Laws of numbers in decimal, commands and lines.
pub mod Digits
pub mod WordNumbers
pub mod RoundTrip
pub mod Commands
pub mod ReadableLines
pub mod Words
pub mod LineExamples
pub mod LineTexts
pub mod Writes
pub mod LineRoom
