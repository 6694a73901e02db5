pub mod Keys
pub mod Counts
pub mod Listed
pub mod Tied
pub mod Marked
pub mod EventsKept
pub mod JobsKept
