pub mod Digests
pub mod Refusals
pub mod Stores
pub mod Tallies
pub mod Valves
