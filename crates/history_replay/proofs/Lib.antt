pub mod Least
pub mod Longer
pub mod Names
pub mod Steps
pub mod Rows
pub mod Ports
pub mod Legal
