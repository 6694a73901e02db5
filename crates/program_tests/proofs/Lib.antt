pub mod Distinct
pub mod Sent
