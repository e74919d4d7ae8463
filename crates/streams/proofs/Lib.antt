pub mod Demands
pub mod Sources
pub mod Fixed
