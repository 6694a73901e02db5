pub mod IoVec
pub mod PrefixFault
pub mod Segments
