pub mod AttachTargets
pub mod KernelNumbers
pub mod MapTypeIds
-- What only private contracts and proofs name.
pub mod PrivateContracts
