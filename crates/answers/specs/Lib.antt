pub mod Many
pub mod Answers
