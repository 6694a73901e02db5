-- What crates above name of the definitions below.
pub use Rattle.io_vector.specs as io_vector
pub mod Work
pub mod Items
pub mod Pool
pub mod Turns
pub mod Order
