pub mod Verdicts
pub mod Walked
pub mod Laws
