pub mod InPlace
pub mod Determined
