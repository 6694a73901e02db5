-- What crates above name of the definitions below.
pub use Rattle.threaded_jobs.specs.process_job as process_job
pub use Rattle.run_jobs.specs as run_jobs
pub use Rattle.run_lanes.specs as run_lanes
pub use Rattle.threaded_jobs.specs as threaded_jobs
pub mod Plans
pub mod Dealt
pub mod Homing
pub mod Seated
pub mod Ran
