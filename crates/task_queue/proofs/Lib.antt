pub mod Items
pub mod Hands
pub mod Keeps
pub mod Told
pub mod Sent
