-- What crates above name of the definitions below.
pub use Rattle.program_io.specs as program_io
pub use Rattle.program_io.specs.Files
pub use Rattle.program_io.specs.Script
pub use Rattle.run_opening.specs as run_opening
pub mod Words
pub mod Contents
pub mod Names
pub mod StepsDealt
pub mod Input
