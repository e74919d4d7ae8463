pub mod Kept
pub mod ByImportance
pub mod Admissions
pub mod FitKept
pub mod Laws
pub mod Turns
pub mod Admitted
