pub mod Heads
pub mod BothWays
