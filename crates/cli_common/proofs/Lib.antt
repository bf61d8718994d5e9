pub mod Appending
pub mod DefaultPasses
pub mod FirstEntries
pub mod LentNames
pub mod Ranges
pub mod SortedKeys
mod EnclosesFirst
mod Examples
