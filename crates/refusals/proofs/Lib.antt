pub mod Refusals
pub mod Determined
