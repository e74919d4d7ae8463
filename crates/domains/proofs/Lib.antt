pub mod Keeps
pub mod Values
pub mod Ports
pub mod Registered
