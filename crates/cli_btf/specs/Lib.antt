-- What contracts cite.
pub mod LeastFile
