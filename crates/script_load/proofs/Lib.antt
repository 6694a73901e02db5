pub mod Values
pub mod Commands
pub mod Lists
pub mod Plans
