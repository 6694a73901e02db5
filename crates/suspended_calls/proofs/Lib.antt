pub mod Senders
pub mod Waiting
pub mod Places
pub mod Counting
pub mod Rising
pub mod Ordered
