-- Laws of parts, rates and caps, the paper's twelve rates, and the terms that a bill takes.
pub mod Parts
pub mod TwelveRates
pub mod RateExamples
pub mod WithinCaps
pub mod TermsTaken
