pub mod State
pub mod Reports
pub mod Moves
pub mod Iteration
pub mod Opening
pub mod Steps
