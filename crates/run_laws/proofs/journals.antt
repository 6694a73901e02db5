mod Named
mod Calls
mod Effects
mod Histories
mod Ranged
pub mod Whole
