-- What crates above name of the definitions below.
pub use Rattle.port_driver.specs.driver_model as driver_model
pub use Rattle.port_body.specs as port_body
pub use Rattle.port_driver.specs as port_driver
pub use Rattle.port_body.specs.recorded_port as recorded_port
pub use Rattle.port_body.specs.served_port as served_port
pub mod Hosts
pub mod Finding
pub mod Opening
pub mod Returning
pub mod Back
pub mod Laws
