pub mod KconfigExterns
pub mod KconfigMaps
pub mod ConfiguredValues
pub mod Layouts
