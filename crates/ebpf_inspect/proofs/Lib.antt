pub mod LinkingAfter
pub mod Reports
