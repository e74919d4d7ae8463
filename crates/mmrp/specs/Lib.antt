pub mod Run
pub mod Walked
pub mod Asks
