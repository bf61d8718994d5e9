pub mod OneResult
pub mod PassOutcomes
pub mod TextResolution
pub mod SlotOutcomes
pub mod CallOutcomes
