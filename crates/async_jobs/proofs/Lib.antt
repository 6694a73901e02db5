mod Order
pub mod Sent
