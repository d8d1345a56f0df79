pub mod Seats
pub mod Over
