pub mod Recorded
pub mod Serving
pub mod Steps
pub mod Answered
pub mod Told
