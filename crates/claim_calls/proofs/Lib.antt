-- The sums of a report, and what claim, report and total answer.
pub mod ReportSums
pub mod CallAnswers
