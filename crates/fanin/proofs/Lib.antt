pub mod Sets
pub mod Addresses
