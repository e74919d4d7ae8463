pub mod Sums
pub mod Parts
pub mod Lines
