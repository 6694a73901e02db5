pub mod Lists
pub mod Made
