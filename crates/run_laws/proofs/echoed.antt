pub mod Mailed
pub mod Answered
pub mod Asked
pub mod Content
pub mod Short
pub mod Owner
pub mod Whole
