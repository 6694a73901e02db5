pub mod Contents
pub mod Counts
pub mod Programs
pub mod Sublists
