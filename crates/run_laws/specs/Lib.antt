-- What crates above name of the definitions below.
pub use Rattle.run_output.specs as run_output
pub mod Sending
pub mod Echoed
pub mod Saved
pub mod Served
pub mod Summary
pub mod Law
pub mod Ranges
pub mod Journals
pub mod Counted
