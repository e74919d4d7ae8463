pub mod Room
pub mod Walks
pub mod Reading
