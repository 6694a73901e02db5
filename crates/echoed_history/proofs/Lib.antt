pub mod Lists
pub mod Effects
pub mod Unsaved
pub mod Rows
pub mod Serving
pub mod Closing
