-- What crates above name of the definitions below.
pub use Rattle.told_jobs.specs as told_jobs
pub mod Ends
pub mod Settling
pub mod Laws
pub mod Senders
pub mod Closed
pub mod Jobs
pub mod Signals
