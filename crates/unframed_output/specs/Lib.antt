pub mod Output
pub mod Laws
