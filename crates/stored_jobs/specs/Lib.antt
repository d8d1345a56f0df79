pub mod OldBounds
pub mod Kept
