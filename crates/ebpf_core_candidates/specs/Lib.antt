pub mod Candidates
pub mod Compatibility
pub mod TypeMatches
pub mod TypeRows

-- Definitions of private contracts and proofs.
