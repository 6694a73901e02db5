pub mod Posting
pub mod Steps
pub mod RowParts
