pub mod Headers
pub mod Numbers
pub mod Names
pub mod Symbols
pub mod Sections
pub mod Relocations
pub mod Faults
