pub mod Telling
pub mod Playing
pub mod Output
