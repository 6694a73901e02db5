pub mod Counts
pub mod Effects
pub mod Submitting
pub mod Sent
