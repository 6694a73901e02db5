pub mod Entries
pub mod Notes
