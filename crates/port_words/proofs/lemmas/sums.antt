pub mod Counting
pub mod Totals
