-- What crates above name of the definitions below.
pub use Rattle.io_vector.specs as io_vector
pub mod Name
pub mod ReasonFault
pub mod Reasons
pub mod Links
