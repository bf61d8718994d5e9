pub mod KernelValues
pub mod Opened
