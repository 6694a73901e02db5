-- What crates above name of the definitions below.
pub use Rattle.port_mail.specs as port_mail
pub mod Rows
pub mod Places
pub mod Ends
pub mod Words
pub mod Keyed
pub mod Dealt
pub mod Opened
