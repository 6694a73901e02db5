pub mod Flags
pub mod Views
pub mod MonitorOrder
pub mod Inverse
pub mod Receivers
pub mod Telling
