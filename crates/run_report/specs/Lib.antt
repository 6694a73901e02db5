pub mod Ports
pub mod Walks
pub mod Processes
pub mod Data
pub mod Report
pub mod Lines
pub mod Cause
pub mod Laws
