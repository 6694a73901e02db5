mod Parts
mod Whole
mod Gathered
mod Given
mod Back
mod Run
mod Told
mod Answered
