pub mod FirstBytes
pub mod FirstFound
pub mod Heads
pub mod Targets
pub mod Wanted
