pub mod Be
pub mod Fields
pub mod Parts
pub mod Pick
