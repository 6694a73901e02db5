pub mod Wakes
pub mod Tells
pub mod Works
pub mod Polls
pub mod Finishes
pub mod Sent
