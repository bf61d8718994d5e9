pub mod Assumed
pub mod Reasons
pub mod ObjectReasons
pub mod ProgramReasons
pub mod Summaries
pub mod Checked
