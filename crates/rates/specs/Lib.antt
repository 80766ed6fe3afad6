-- Document 01's prices per kWh, and the rates and caps that they give; of an amended contract the terms that a bill takes.
pub mod Prices
pub mod Rates
pub mod TwelveRates
pub mod RateExamples
pub mod TermsTaken
