pub mod Going
pub mod Moves
pub mod Apart
pub mod Joined
pub mod Sent
pub mod Halts
