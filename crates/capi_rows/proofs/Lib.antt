pub mod Rows
pub mod SectionNames
pub mod Fills
pub mod NumberNames
