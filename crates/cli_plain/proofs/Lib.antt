pub mod Listing
pub mod Refusing
