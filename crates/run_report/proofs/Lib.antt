pub mod Rows
pub mod Same
pub mod Walked
pub mod Counted
pub mod Lists
