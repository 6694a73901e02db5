pub mod Sized
pub mod Steps
