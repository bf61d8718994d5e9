pub mod OwnedBytes
pub mod Within

-- What only private contracts and proofs name.
