pub mod Views
pub mod Stat
pub mod Queue
pub mod Parts
pub mod Steps
pub mod Known
pub mod Answers
pub mod Laws
