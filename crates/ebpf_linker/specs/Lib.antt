pub mod Functions
pub mod Order
pub mod Faults
pub mod Machine
pub mod Behaviour
pub mod Result
pub mod Numbered
pub mod Copies
pub mod LinkMap
-- What only private contracts and proofs name.
pub mod Search
pub mod PrivateContracts
