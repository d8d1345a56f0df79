pub mod Numbers
pub mod Lists
pub mod Refusals
pub mod Many
pub mod Determined
