pub mod Samples
pub mod Writing
pub mod Runs
pub mod Digits
