pub mod StructOps
