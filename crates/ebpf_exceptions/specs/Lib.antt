pub mod Callbacks
pub mod Laws
