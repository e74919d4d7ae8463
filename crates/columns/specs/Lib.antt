pub mod Stages
pub mod Answers
pub mod Steps
pub mod Places
