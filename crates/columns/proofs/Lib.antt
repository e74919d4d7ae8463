pub mod Steps
pub mod Entries
pub mod Talkers
pub mod ResultFields
pub mod EarlyFits
pub mod EarlyPorts
pub mod EarlyTables
