pub mod Memory
pub mod Pinnings
pub mod Arenas
pub mod Laws
