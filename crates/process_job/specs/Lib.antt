-- What crates above name of the definitions below.
pub use Rattle.port_model.specs as port_model
pub use Rattle.process_end.specs as process_end
pub use Rattle.script_plan.specs as script_plan
pub mod Asks
pub mod Mails
pub mod Waits
pub mod Counts
pub mod Taking
pub mod Waiting
pub mod Actions
pub mod Going
pub mod Seats
pub mod Steps
pub mod Jobs
