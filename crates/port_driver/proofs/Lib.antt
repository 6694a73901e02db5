pub mod Events
pub mod Driven
pub mod Faults
