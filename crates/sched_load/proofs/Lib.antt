pub mod Puts
pub mod Sent
