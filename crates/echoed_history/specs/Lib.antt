-- What crates above name of the definitions below.
pub use Rattle.port_history.specs as port_history
pub mod Commands
pub mod Laws
