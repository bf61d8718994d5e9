pub mod Symbols
pub mod Sections
pub mod Relocations
pub mod Records
pub mod Programs
pub mod Texts
pub mod LicenseAndVersion
