pub mod Effects
pub mod Operations
pub mod Arithmetic
pub mod Steps
pub mod Reached
pub mod Visits
pub mod MachineNumbers
pub mod ConcreteMachine
-- What only private contracts and proofs name.
pub mod PrivateContracts
