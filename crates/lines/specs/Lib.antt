pub mod Lines
pub mod Closing
