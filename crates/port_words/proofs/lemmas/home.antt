pub mod HomeLemmas
pub mod HolderLemmas
