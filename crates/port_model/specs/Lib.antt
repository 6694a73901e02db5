-- What crates above name of the definitions below.
pub use Rattle.port_signal.specs.io_vector as io_vector
pub use Rattle.port_signal.specs as port_signal
pub mod Signals
pub mod Tasks
