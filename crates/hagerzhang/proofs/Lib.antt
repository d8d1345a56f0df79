pub mod Bridge
pub mod Answering
pub mod Determined
