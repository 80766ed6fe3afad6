-- Laws of days, of stretches, of a certificate's days, of a bill's shares; the laws of amounts and caps, their bounds, and the examples.
pub mod Days
pub mod Stretches
pub mod Certificates
pub mod Shares
pub mod KwhFound
pub mod AmountBounds
pub mod AmountLaws
pub mod AmountExamples
