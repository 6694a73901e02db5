pub mod Monitors
pub mod Plan
