-- A bill's kWh spread over its days, and its amount, cap and rate; the same by stretches; laws of every bill, and examples; last, what the
-- contracts of the code's inner functions cite.
pub mod Days
pub mod Amounts
pub mod Stretches
pub mod EarlierAmount
pub mod AmountLaws
pub mod AmountExamples
pub mod KwhFound
