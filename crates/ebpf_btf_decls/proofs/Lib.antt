pub mod MemberValues
pub mod BothModes
pub mod NumberedNames
pub mod SectionMaps
