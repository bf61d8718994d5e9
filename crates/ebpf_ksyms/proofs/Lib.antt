pub mod Reading
pub mod Outcomes
pub mod FromText
pub mod Resolving
pub mod Pieces
pub mod Results
pub mod ByOutcomes
pub mod Examples
