-- What crates above name of the definitions below.
pub use Rattle.run_lanes.specs.port_mail as port_mail
pub use Rattle.port_words.specs as port_words
pub use Rattle.process_end.specs as process_end
pub use Rattle.process_job.specs as process_job
pub use Rattle.process_end.specs.process_receipts as process_receipts
pub use Rattle.run_lanes.specs as run_lanes
pub mod Words
pub mod Shown
pub mod Rest
pub mod Ran
pub mod Merge
pub mod Tell
pub mod Rows
pub mod Waited
pub mod Whole
pub mod Mailboxes
