pub mod Arithmetic
pub mod Numerals
pub mod Units
