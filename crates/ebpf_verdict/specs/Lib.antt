pub mod Causes
pub mod Reasons
pub mod Writing
pub mod Targets
pub mod Verdicts
