pub mod Vectors
pub mod Passes
pub mod Packed
