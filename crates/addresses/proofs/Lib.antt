pub mod Records
pub mod Searching
pub mod Places
pub mod Values
pub mod Keeps
pub mod Loops
