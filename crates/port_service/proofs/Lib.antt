pub mod Recut
pub mod Calls
pub mod Rows
pub mod Watched
pub mod Begun
pub mod Counted
