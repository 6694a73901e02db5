pub mod Tests
pub mod Steps
