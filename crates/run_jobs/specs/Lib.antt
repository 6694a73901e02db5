-- What crates above name of the definitions below.
pub use Rattle.process_end.specs as process_end
pub mod Stops
pub mod Telling
pub mod Working
pub mod Rounds
pub mod Finishing
