mod Same
mod Rows
mod Opened
