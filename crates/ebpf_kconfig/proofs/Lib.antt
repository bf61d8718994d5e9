pub mod ConfigLines
pub mod DefinedSymbols
pub mod ExternSizes
pub mod Layouts
pub mod SortedGroups
