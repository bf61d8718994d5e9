pub mod DataSections
pub mod Maps
pub mod Externs
pub mod Laws
pub mod MapMembers
-- What only private contracts and proofs name.
pub mod SectionMaps
