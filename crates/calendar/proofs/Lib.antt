-- The laws of the crate, for its own proofs and for its callers'.
pub mod SameDate
pub mod Days
pub mod Conversions
pub mod TableOfDates
pub mod SchemeMonths
pub mod DayAndDate
