pub mod Names
pub mod Given
pub mod OneRun
pub mod Whole
