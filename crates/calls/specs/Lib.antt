-- The answers whose numbers fit, the replies of day and date, and what `perform` owes.
pub mod Replies
