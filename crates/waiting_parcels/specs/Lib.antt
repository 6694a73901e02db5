pub mod Waiting
pub mod Order
pub mod Queues
