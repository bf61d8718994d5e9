pub mod Examples
pub mod OpenedObjects
