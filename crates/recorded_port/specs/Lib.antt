-- What crates above name of the definitions below.
pub use Rattle.served_port.specs as served_port
pub mod Laws
pub mod Asks
pub mod View
pub mod Taking
pub mod Resuming
pub mod Openings
