-- What crates above name of the definitions below.
pub use Rattle.packet_framing.specs as packet_framing
pub mod Config
