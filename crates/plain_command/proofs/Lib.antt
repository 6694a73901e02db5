pub mod Given
pub mod Replayed
pub mod Legal
