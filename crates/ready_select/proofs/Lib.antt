pub mod Counting
pub mod Entries
pub mod Selecting
pub mod Sets
pub mod Sorted
