pub mod Counted
pub mod Segments
