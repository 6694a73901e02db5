pub mod Kinds
pub mod Samples
pub mod Running
pub mod Calling
pub mod Handled
