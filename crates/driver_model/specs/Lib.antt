-- What crates above name of the definitions below.
pub use Rattle.port_config.specs as port_config
pub use Rattle.port_model.specs as port_model
pub use Rattle.port_model.specs.port_signal as port_signal
pub mod Calls
pub mod Same
pub mod Echo
pub mod Tally
pub mod Valve
pub mod Store
pub mod Digest
pub mod Spawn
pub mod Drivers
pub mod Programs
