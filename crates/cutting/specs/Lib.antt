pub mod Named
pub mod Plan
