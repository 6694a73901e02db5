-- What crates above name of the definitions below.
pub use Rattle.gateway_script.specs as gateway_script
pub use Rattle.outside.specs as outside
pub use Rattle.script_plan.specs as script_plan
pub mod Word
pub mod Files
pub mod Script
pub mod Sink
pub mod Cause
