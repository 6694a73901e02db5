-- What crates above name of the definitions below.
pub use Rattle.port_lanes.specs as port_lanes
pub use Rattle.recorded_port.specs as recorded_port
pub use Rattle.recorded_port.specs.served_port as served_port
pub mod LanePort
pub mod Steps
pub mod Openings
pub mod Body
pub mod Turns
pub mod Ends
