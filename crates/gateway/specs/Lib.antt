-- What crates above name of the definitions below.
pub use Rattle.driver_hosts.specs as driver_hosts
pub mod Fresh
pub mod Run
pub mod Fixed
pub mod Ran
pub mod Causes
pub mod Stages
pub mod Laws
