pub mod Sets
pub mod Failures
pub mod Places
