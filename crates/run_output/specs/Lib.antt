-- What crates above name of the definitions below.
pub use Rattle.script_run.specs as script_run
pub use Rattle.script_run.specs.run_opening as run_opening
pub use Rattle.script_input.specs as script_input
pub mod Reported
pub mod Writes
pub mod Ends
