pub mod One
pub mod OfStream
pub mod OfPort
