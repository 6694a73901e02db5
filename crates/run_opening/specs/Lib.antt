-- What crates above name of the definitions below.
pub use Rattle.driver_hosts.specs as driver_hosts
pub use Rattle.driver_hosts.specs.driver_model as driver_model
pub use Rattle.driver_hosts.specs.port_body as port_body
pub use Rattle.run_lanes.specs as run_lanes
pub use Rattle.run_end.specs as run_end
pub use Rattle.run_seats.specs as run_seats
pub mod Opened
pub mod Faults
pub mod Setting
pub mod Jobs
pub mod Script
