pub mod Updates
pub mod Places
pub mod Reads
pub mod Find
pub mod Octets
