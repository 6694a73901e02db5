pub mod Account
pub mod Ends
pub mod Seats
pub mod Laws
