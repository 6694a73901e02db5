pub mod Frames
pub mod Joined
pub mod Lines
pub mod Messages
pub mod Packets
pub mod Reading
pub mod Unframed
