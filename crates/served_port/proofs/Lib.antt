pub mod EndNames
pub mod Held
pub mod Laws
pub mod Opened
pub mod Rows
pub mod Same
pub mod TakenRows
