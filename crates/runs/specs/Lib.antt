pub mod Outcomes
pub mod Asking
pub mod Counters
