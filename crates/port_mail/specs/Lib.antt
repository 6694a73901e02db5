-- What crates above name of the definitions below.
pub use Rattle.port_links.specs as port_links
pub mod Ends
pub mod Rows
