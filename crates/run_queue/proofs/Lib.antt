pub mod Accounts
pub mod EndLemmas
pub mod SeatLemmas
pub mod OpeningLemmas
