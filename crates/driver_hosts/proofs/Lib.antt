pub mod Counts
pub mod Ranks
pub mod Returning
pub mod Openings
pub mod ComingBack
