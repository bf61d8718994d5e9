pub mod Listings
pub mod RecordCounts
pub mod StructOps
pub mod PrivateContracts
