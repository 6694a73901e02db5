pub mod Sums
pub mod Asking
pub mod Rows
pub mod Telling
pub mod Receiving
pub mod Steps
pub mod Ports
pub mod Whole
