pub mod Curves
pub mod Told
