-- What crates above name of the definitions below.
pub use Rattle.driver_model.specs.port_model as port_model
pub mod Opening
pub mod Ties
pub mod Marks
pub mod Suspension
pub mod Events
pub mod Jobs
pub mod Service
pub mod State
pub mod Laws
pub mod Lawful
pub mod Mail
pub mod Counts
