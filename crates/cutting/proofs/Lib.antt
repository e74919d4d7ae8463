pub mod Named
pub mod Table
pub mod Prefix
pub mod Loops
