pub mod sums
pub mod over
pub mod home
pub mod busy
