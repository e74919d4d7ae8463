pub mod Run
pub mod Walked
pub mod Acts
pub mod Enrols
pub mod Asks
