pub mod Listing
pub mod Flagged
