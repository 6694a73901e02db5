pub mod Home
pub mod Seats
pub mod Lent
pub mod Laws
