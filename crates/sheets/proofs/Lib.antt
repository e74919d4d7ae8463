pub mod Reading
pub mod Counting
pub mod Room
pub mod Sheets
