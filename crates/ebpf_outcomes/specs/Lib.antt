pub mod OneResult
pub mod PassOutcomes
pub mod SlotOutcomes
pub mod CallOutcomes
