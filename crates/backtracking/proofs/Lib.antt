pub mod Bridge
pub mod Determined
