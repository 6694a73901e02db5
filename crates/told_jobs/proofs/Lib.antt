pub mod Given
pub mod Numbered
pub mod Rising
pub mod Taken
pub mod Telling
pub mod Worked
