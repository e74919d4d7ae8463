pub mod Laws
pub mod Left
pub mod Reading
pub mod Walking
pub mod Applying
