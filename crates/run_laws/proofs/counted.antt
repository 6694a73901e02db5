mod Totals
mod Tasks
mod Whole
