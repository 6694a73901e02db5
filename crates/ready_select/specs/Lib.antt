pub mod Answered
pub mod Events
pub mod Latest
pub mod Order
pub mod Polling
pub mod Sets
