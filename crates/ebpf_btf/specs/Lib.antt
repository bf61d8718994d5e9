pub mod Additions
pub mod EssentialNames
pub mod Format
pub mod Header
pub mod Items
pub mod Memory
pub mod Next
pub mod Numbers
pub mod Reading
pub mod Steps
pub mod Strings
pub mod TypeInfo
pub mod Types
pub mod Variants
pub mod Words
-- Definitions of private contracts and proofs.
pub mod Offsets
