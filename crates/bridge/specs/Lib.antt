pub mod Joining
pub mod Promises
