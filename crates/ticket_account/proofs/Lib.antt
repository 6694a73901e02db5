pub mod Sums
pub mod Seats
pub mod Gathered
pub mod Openings
pub mod Returning
