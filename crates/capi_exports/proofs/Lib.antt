pub mod Handles
pub mod KernelHandles
pub mod KernelBytes
pub mod HeldObjects
pub mod WantedSymbols
pub mod Texts
pub mod MappedPrograms
pub mod PassSequences
