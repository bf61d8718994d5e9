pub mod Reached
pub mod LeavingOut
pub mod Laws
-- What only private contracts and proofs name.
pub mod PrivateContracts
