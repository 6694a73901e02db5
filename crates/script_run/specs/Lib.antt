-- What crates above name of the definitions below.
pub use Rattle.seated_script.specs.run_opening as run_opening
pub mod Readiness
pub mod Ran
pub mod Ends
pub mod Parted
pub mod Left
