pub mod Nothing
pub mod Queued
pub mod Jobs
pub mod Tallies
pub mod Refusals
