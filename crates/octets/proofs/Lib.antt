pub mod Parts
pub mod Be
pub mod Pick
pub mod Frame
pub mod Fields
pub mod Patches
pub mod Loops
