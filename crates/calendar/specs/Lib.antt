-- The definitions that the contracts of the crate cite, and what is established of the table of dates.
pub mod Calendar
pub mod Days
pub mod Answers
pub mod TableOfDates
