pub mod Keeps
pub mod Leaving
pub mod Joining
pub mod Acts
pub mod Registered
