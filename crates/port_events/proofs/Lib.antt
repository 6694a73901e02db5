pub mod AllHeld
pub mod Handling
pub mod Parts
pub mod Rising
pub mod Selected
pub mod Single
pub mod Steps
