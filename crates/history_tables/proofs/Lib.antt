pub mod Keys
pub mod Sets
pub mod ListSteps
pub mod Rising
pub mod EventSteps
pub mod JobSteps
