pub mod Faults
pub mod Vectors
pub mod Told
pub mod Positions
