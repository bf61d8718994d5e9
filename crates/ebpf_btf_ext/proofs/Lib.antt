pub mod SectionNames
pub mod ExtSections
pub mod LastIndices
pub mod Relocations
pub mod KnownKinds
