-- What crates above name of the definitions below.
pub use Rattle.driver_model.specs as driver_model
pub use Rattle.port_driver.specs as port_driver
pub mod Told
