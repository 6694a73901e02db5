pub mod HomeSteps
pub mod QueueSteps
pub mod Begun
pub mod Served
pub mod Looks
pub mod Closings
pub mod Wakings
