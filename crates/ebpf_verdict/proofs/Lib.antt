pub mod Kept
pub mod OkPrepared
pub mod SoFar
pub mod Written
pub mod Judged
