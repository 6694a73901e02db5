pub mod Shown
pub mod Rests
pub mod Merges
pub mod Tells
pub mod Rows
pub mod TakingRests
pub mod Waited
