-- What crates above name of the definitions below.
pub use Rattle.closed_ports.specs as closed_ports
pub use Rattle.served_port.specs as served_port
pub mod Closed
pub mod Parts
pub mod Joined
