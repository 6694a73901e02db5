pub mod Headers
pub mod Laws
pub mod LineRuns
pub mod Lists
pub mod PacketRuns
pub mod Running
pub mod Steps
