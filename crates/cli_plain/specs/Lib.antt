pub mod Arguments
pub mod Linked
pub mod Printed
pub mod Done

-- What only private contracts and proofs name.
