pub mod SlotTargets
pub mod References
pub mod Numbers
pub mod Linking
pub mod Laws
pub mod NamedSlots
-- What only private contracts and proofs name.
pub mod PrivateContracts
pub mod Relocated
pub mod Passes
pub mod Maps
pub mod SlotOutcomes
