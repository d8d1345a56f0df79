pub mod Machine
pub mod Meaning
pub mod Over
