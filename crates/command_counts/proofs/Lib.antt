pub mod Counting
pub mod Effects
pub mod Sending
pub mod Staying
