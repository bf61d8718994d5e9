pub mod Addresses
pub mod Externs
pub mod Outcomes
pub mod Sources
-- What only private contracts and proofs name.
pub mod PrivateContracts
