pub mod Acts
pub mod Asks
pub mod Steps
