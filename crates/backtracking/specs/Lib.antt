pub mod Backtracking
pub mod Machine
pub mod Meaning
pub mod Over
