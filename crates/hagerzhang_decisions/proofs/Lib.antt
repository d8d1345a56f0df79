pub mod Decides
pub mod Overwriting
