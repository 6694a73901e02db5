pub mod Asks
pub mod Receipts
pub mod Ledgers
pub mod Counts
