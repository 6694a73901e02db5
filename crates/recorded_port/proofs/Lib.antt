pub mod Append
pub mod RowParts
pub mod Same
pub mod Settled
pub mod TaskRows
pub mod Grown
