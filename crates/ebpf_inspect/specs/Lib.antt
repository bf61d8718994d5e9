pub mod Inspected
-- What only private contracts and proofs name.
pub mod Named
