-- What crates above name of the definitions below.
pub use Rattle.driver_model.specs as driver_model
pub use Rattle.port_config.specs as port_config
pub mod Context
pub mod Lent
pub mod Replies
pub mod Starting
pub mod Driven
pub mod Faults
