pub mod Comparing
pub mod Machines
pub mod Offers
pub mod Sent
pub mod Timers
