pub mod Faults
pub mod Lists
pub mod Mapped
pub mod Maps
pub mod SameMaps
pub mod TextMaps
pub mod ZeroBytes
