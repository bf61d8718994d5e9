pub mod Absences
pub mod RecordOutcomes
pub mod Records
pub mod Carried
pub mod Spans
-- What only private contracts and proofs name.
pub mod PrivateContracts
pub mod SpanInputs
