pub mod Kept
pub mod FoundFunctions
pub mod Steps
pub mod ByKeys
pub mod Remaining
pub mod LeftOut
