-- What crates above name of the definitions below.
pub use Rattle.process_job.specs as process_job
pub use Rattle.run_jobs.specs as run_jobs
pub mod Kinds
pub mod Jobs
pub mod Parts
pub mod Ended
