pub mod Words
pub mod Journals
pub mod Command
pub mod Ends
pub mod Stages
pub mod Laws
