pub mod DriverQueue
pub mod EnqFault
