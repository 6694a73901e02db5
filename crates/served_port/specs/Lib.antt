-- What crates above name of the definitions below.
pub use Rattle.async_jobs.specs as async_jobs
pub use Rattle.port_events.specs as port_events
pub use Rattle.port_jobs.specs as port_jobs
pub use Rattle.port_state.specs.port_service as port_service
pub use Rattle.port_state.specs as port_state
pub use Rattle.ready_select.specs as ready_select
pub mod View
pub mod Outcomes
pub mod Steps
pub mod Openings
