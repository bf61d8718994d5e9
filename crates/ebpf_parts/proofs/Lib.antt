pub mod Slots
pub mod ProgramKinds
pub mod NamesRead
