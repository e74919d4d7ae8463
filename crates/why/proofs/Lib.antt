pub mod Readings
pub mod Walking
pub mod Deciding
