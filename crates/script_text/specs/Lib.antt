pub mod Tokens
pub mod Texts
pub mod Data
pub mod InFront
pub mod Reading
pub mod PartFault
pub mod Borrowed
