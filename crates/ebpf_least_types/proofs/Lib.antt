pub mod FirstUses
pub mod NoUses
pub mod SameSlots
pub mod SameSoFar
