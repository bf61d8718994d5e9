pub mod ExtFormat
pub mod ExtReading
pub mod Numbers
pub mod RelocationKinds
pub mod SectionNames
-- Definitions of private contracts and proofs.
pub mod PrivateContracts
