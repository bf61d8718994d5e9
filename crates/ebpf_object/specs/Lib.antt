pub mod Objects
pub mod LinkedPrograms
pub mod OlderHelpers
pub mod Patches
pub mod Variables
pub mod TypedExterns
pub mod Names
pub mod WrittenSlots
pub mod Stages
pub mod Prepared
pub mod UnchangedFields
pub mod Chain
pub mod BothModes
pub mod Headline
-- What only private contracts and proofs name.
pub mod PrivateContracts
