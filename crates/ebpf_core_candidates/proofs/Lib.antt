pub mod Names
pub mod CandidateLaws
pub mod CandidateRows
pub mod Comparisons
pub mod TypeMatching
pub mod Refusals
pub mod Unnamed
