pub mod ProgramTypes
pub mod Maps
pub mod Memory
pub mod Numbers
pub mod StandardNumbers
pub mod NamedKinds
pub mod Slots
pub mod Sections
