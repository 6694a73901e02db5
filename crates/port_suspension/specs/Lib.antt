pub mod Listed
pub mod Flags
