pub mod Lines
pub mod Records
pub mod Sheet
pub mod Promises
