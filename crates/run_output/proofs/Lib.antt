mod Held
pub mod Journal
pub mod Paired
pub mod Written
