pub mod IdUses
pub mod LeastTypes
pub mod Memory
