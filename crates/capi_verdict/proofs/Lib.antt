pub mod Loops
pub mod Prepared
