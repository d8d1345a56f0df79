pub mod First
pub mod Elements
pub mod PartialSums
pub mod Faults
pub mod Positions
pub mod Determined
pub mod Untouched
