mod Ready
mod Named
mod Seats
