pub mod Results
pub mod Refusals
