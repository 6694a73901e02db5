-- What crates above name of the definitions below.
pub use Rattle.port_lanes.specs as port_lanes
pub use Rattle.process_receipts.specs as process_receipts
pub use Rattle.suspend_list.specs as suspend_list
pub use Rattle.task_queue.specs as task_queue
pub mod Views
pub mod Steps
pub mod Calls
pub mod Ports
pub mod Added
pub mod Laws
pub mod Bounds
pub mod Commanded
pub mod Mailbox
pub mod Looked
pub mod Resumed
pub mod Ended
