pub mod Sharing
pub mod Numbers
