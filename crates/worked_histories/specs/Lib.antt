pub mod Rows
pub mod Commands
pub mod Owners
pub mod Suspended
pub mod Jobs
pub mod Programs
pub mod Counts
