-- What crates above name of the definitions below.
pub use Rattle.run_opening.specs as run_opening
pub mod Opened
pub mod Parts
pub mod Seated
