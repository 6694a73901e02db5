-- What crates above name of the definitions below.
pub use Rattle.port_mail.specs.port_links as port_links
pub use Rattle.port_mail.specs as port_mail
pub use Rattle.port_service.specs as port_service
pub mod View
pub mod Served
