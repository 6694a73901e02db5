-- What crates above name of the definitions below.
pub use Rattle.port_history.specs as port_history
pub mod Table
pub mod Posts
pub mod Flags
pub mod Indexed
