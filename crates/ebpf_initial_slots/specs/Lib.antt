pub mod MapVariables
pub mod InitialSlots
