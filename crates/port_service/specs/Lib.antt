-- What crates above name of the definitions below.
pub use Rattle.port_driver.specs as port_driver
pub mod Service
pub mod Callbacks
pub mod Called
pub mod Closing
pub mod Serves
pub mod Opened
