mod Places
mod Faults
mod Jobs
mod Watched
mod Ends
