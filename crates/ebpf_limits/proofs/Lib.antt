pub mod Counts
pub mod OwnedTypes
pub mod OwnedTables
pub mod OwnedFunctions
pub mod OwnedMaps
pub mod OwnedRelocations
pub mod OwnedObjects
