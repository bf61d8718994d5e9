pub mod Faults
pub mod Maps
pub mod Numbers
