pub mod InitialSlots
