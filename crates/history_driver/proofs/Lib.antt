pub mod Equal
pub mod Replied
pub mod Stopped
pub mod Numbered
pub mod Calls
pub mod Rows
