pub mod Leaving
pub mod Senders
pub mod Gathered
pub mod Arrivals
pub mod Choosing
pub mod Kept
pub mod Places
pub mod Taking
