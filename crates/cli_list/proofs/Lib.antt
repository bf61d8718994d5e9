pub mod Using
pub mod Counted
pub mod Listed
pub mod Examples
