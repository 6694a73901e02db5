mod Asks
mod Came
mod Tasks
pub mod Runs
mod Programs
