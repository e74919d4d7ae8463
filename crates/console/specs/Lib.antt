pub mod Text
pub mod Texts
pub mod Words
